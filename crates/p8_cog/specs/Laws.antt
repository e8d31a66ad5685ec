-- internal: the laws that a life owes, for all kinds. No public contract cites it.
use Rattle.std.proofs.Common.{◌≡◌, ◌<◌, ◌≤◌, ◌∷◌, ◌++◌, [], ℕ, List, arith}
use Rattle.p8_access.specs.declared.kinds.Access.{Access}
use Rattle.p8_access.specs.declared.order.Turn.{Turn}
use Rattle.p8_access.specs.Lives.{Begun, PasmBegun, SpinBegun, first_turn_of, IsTurnAt}
use Rattle.p8_bcog.specs.Laws as Bytecodes
use Rattle.p8_cog.specs.Replaying as Instructions
use Rattle.p8_cog.specs.declared.life_kind.LifeKind.{LifeKind}
use Rattle.p8_cog.specs.declared.life_kind.LifeKind.TheVariants.{Pasm, Spin}
use Rattle.p8_cog.specs.Kinds.{number_of}
use Rattle.p8_cog.specs.Lives.{asks}

pub one-asked : (b : Begun) (ts : List Turn) (c d : ℕ) (a e : Access) → asks b ts c a → asks b ts d e → (c ≡ d) × (a ≡ e)
one-asked (PasmBegun loaded) ts c d a e one other = Instructions.one-asked (PasmBegun loaded) ts c d a e one other
one-asked (SpinBegun entered) ts c d a e one other = Bytecodes.one-asked (SpinBegun entered) ts c d a e one other

pub asked-first : (b : Begun) (c : ℕ) (a : Access) → asks b [] c a → first_turn_of b < c
asked-first (PasmBegun loaded) c a asked = Instructions.asked-first (PasmBegun loaded) c a asked
asked-first (SpinBegun entered) c a asked = Bytecodes.asked-first (SpinBegun entered) c a asked

pub asked-later : (b : Begun) (ts : List Turn) (turn : Turn) (c d : ℕ) (a e : Access) → asks b ts c a → IsTurnAt c a turn →
    asks b (ts ++ turn ∷ []) d e → turn.key.clock < d
asked-later (PasmBegun loaded) ts turn c d a e one at other = Instructions.asked-later (PasmBegun loaded) ts turn c d a e one at other
asked-later (SpinBegun entered) ts turn c d a e one at other = Bytecodes.asked-later (SpinBegun entered) ts turn c d a e one at other

-- an instruction takes 4 clocks or more, and a bytecode 32
pub paced : (kind : LifeKind) → 4 ≤ number_of kind 4 32
paced Pasm = omega arith
paced Spin = omega arith
