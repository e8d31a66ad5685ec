-- What a life and what it has said last have to do with the history of its cog.
use Rattle.std.specs.Prelude.{ℕ, ◌≡◌, List, Some}
use Rattle.p8_access.specs.declared.kinds.Access.{Access}
use Rattle.p8_access.specs.declared.order.Turn.{Turn}
use Rattle.p8_access.specs.declared.lives.Next.{Next}
use Rattle.p8_access.specs.Lives.{Begun, Tells}
use Rattle.p8_access.specs.declared.states.CogState.{CogState}
use Rattle.p8_access.specs.declared.states.CogState.TheVariants.{Stopped, Starting, Running}
use Rattle.p8_access.specs.Worlds.{World}
use Rattle.p8_access.specs.Histories.{begun, since_begin}

module _ (asked : Begun → List Turn → ℕ → Access → Type 0) (stands : Begun → List Turn → Type 0) (said : Next) (w : World) (past : List Turn) (n : ℕ) where
  -- the life is that of the running cog, and what it has said is true of it
  pub record Sits : Type 0 where
    pub life : Begun
    pub began : begun w past n ≡ Some life
    pub stood : stands life (since_begin past n)
    pub told : Tells (asked life (since_begin past n)) w.clocks said

  abbrev pub SitsIn : CogState → Type 0
  SitsIn Stopped = Unit {0}
  SitsIn (Starting since origin) = Unit {0}
  SitsIn (Running origin) = Sits
