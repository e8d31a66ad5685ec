-- What the cogs ask next.
use Rattle.std.specs.Prelude.{ℕ, ◌≡◌, List, Some}
use Rattle.p8_access.specs.declared.order.Turn.{Turn}
use Rattle.p8_access.specs.declared.lives.Next.{Next}
use Rattle.p8_access.specs.declared.lives.Next.TheVariants.{Quiet}
use Rattle.p8_access.specs.declared.states.CogState.{CogState}
use Rattle.p8_access.specs.declared.states.CogState.TheVariants.{Stopped, Starting, Running}
use Rattle.p8_access.specs.Lives.{Begun, Tells}
use Rattle.p8_access.specs.Worlds.{World}
use Rattle.p8_access.specs.Histories.{begun, since_begin}
use Rattle.p8_cog.specs.Lives.{asks}
use Rattle.p8_machine.specs.Places.{IsSpoken}

-- the access that a running cog's life asks after its turns, with the clock from which on it asks it, or that this is none below the
-- limit of clocks; a cog that doesn't run asks nothing
abbrev pub IsNextAsked : World → (past : List Turn) → (n : ℕ) → CogState → Next → Type 0
IsNextAsked w past n Stopped next = next ≡ Quiet
IsNextAsked w past n (Starting since origin) next = next ≡ Quiet
IsNextAsked w past n (Running origin) next =
    (life : Begun) × (begun w past n ≡ Some life) × Tells (asks life (since_begin past n)) w.clocks next × IsSpoken next
