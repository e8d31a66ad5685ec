-- In a legal history each halt by a register names one of a cog's 512.
use Rattle.std.proofs.Common.{sym, subst, ℕ, ◌+◌, ◌*◌, nat_le, List, [], ◌∷◌}
use Rattle.std.specs.Prelude.{All}
use Rattle.std.proofs.lemmas.List.Elements.{All-nil, All-cons}
use Rattle.p8_access.specs.declared.kinds.Origin.{Origin}
use Rattle.p8_access.specs.declared.kinds.Origin.TheVariants.{Pasm, Spin}
use Rattle.p8_access.specs.declared.kinds.Access.{Access}
use Rattle.p8_access.specs.declared.order.Turn.{Turn}
use Rattle.p8_access.specs.Lives.{Begun, PasmBegun, SpinBegun}
use Rattle.p8_access.specs.declared.states.CogState.{CogState}
use Rattle.p8_access.specs.declared.states.CogState.TheVariants.{Stopped, Starting, Running}
use Rattle.p8_access.specs.Worlds.{World}
use Rattle.p8_access.specs.Hub.{cog_state}
use Rattle.p8_access.specs.Histories.{first_access, since_begin, IsNextIn, Legal}
use Rattle.p8_cog.specs.Lives.{asks}
use Rattle.p8_verify.specs.Halts.{IsProperHalt, NamesRegister}
use Rattle.p8_verify.proofs.Named.{Named, if-named}
use Rattle.p8_verify.proofs.Assembly.{assembly-named}
use Rattle.p8_verify.proofs.Bytecodes.{bytecodes-named}

-- what a life asks
asked-named : (life : Begun) (turns : List Turn) (clock : ℕ) (access : Access) → asks life turns clock access → IsProperHalt access
asked-named (PasmBegun loaded) turns clock access asked = assembly-named loaded turns asked.0 clock access asked.1
asked-named (SpinBegun entered) turns clock access asked = bytecodes-named entered turns asked.0 clock access asked.1

-- the first turn of a start
first-named : (origin : Origin) → Named (first_access origin)
first-named (Pasm code par) = if-named (nat_le (code + 4 * 496) 32768) (record { halts = tt }) (record { halts = tt })
first-named (Spin entry pbase vbase frame size) = record { halts = tt }

-- the next access of a cog in each of its states
next-named : (w : World) (past : List Turn) (n : ℕ) (state : CogState) (clock : ℕ) (access : Access) →
    IsNextIn asks w past n state clock access → IsProperHalt access
next-named w past n Stopped clock access next = absurd next
next-named w past n (Starting since origin) clock access next = subst IsProperHalt (sym next.1) (first-named origin).halts
next-named w past n (Running origin) clock access next = asked-named next.life (since_begin past n) next.earliest access next.asks

pub halts-named : (w : World) (past : List Turn) → Legal asks w past → All NamesRegister past
halts-named w [] legal = All-nil NamesRegister
halts-named w (turn ∷ past) legal =
    All-cons NamesRegister turn past
    (next-named w past turn.key.cog (cog_state w past turn.key.cog) turn.key.clock turn.access legal.1.next.next) (halts-named w past legal.0)
