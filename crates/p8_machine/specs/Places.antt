-- internal
-- The lives of the eight cogs, by their places.
use Rattle.std.specs.Prelude.{ℕ, ◌≡◌, List, [], ◌∷◌, ◌++◌, Option, Some, slice_get}
use Rattle.p8_access.specs.declared.kinds.Access.{Access}
use Rattle.p8_access.specs.declared.order.Turn.{Turn}
use Rattle.p8_access.specs.declared.lives.Next.{Next}
use Rattle.p8_access.specs.declared.lives.Next.TheVariants.{At, Quiet, More}
use Rattle.p8_access.specs.Lives.{Begun, Tells, announced_by}
use Rattle.p8_bcog.specs.Counters.{IsAnnouncing}
use Rattle.p8_cog.specs.declared.cog_life.CogLife.{CogLife}
use Rattle.p8_cog.specs.Counters.{IsCounterOf}
use Rattle.p8_cog.specs.WholeLives.{stands_for, announced_in}

-- what is said is the life's next access, or that none comes, and no promise
abbrev pub IsSpoken : Next → Type 0
IsSpoken (At clock access) = Unit {0}
IsSpoken Quiet = Unit {0}
IsSpoken (More bound) = ⊥

-- all lives but one are as they were
abbrev pub SameBut : ℕ → List CogLife → List CogLife → Type 0
SameBut cog old new = (n : ℕ) (life : CogLife) → (n ≡ cog → ⊥) → slice_get new n ≡ Some life → slice_get old n ≡ Some life

-- an access that is said is the one that the life has announced
abbrev pub HasAnnounced : CogLife → Next → Type 0
HasAnnounced life said = (asked : ℕ × Access) → announced_by said ≡ Some asked → announced_in life ≡ Some asked

-- this is the counter of the access that the life has announced, in a run that begins with this memory
abbrev pub Counts : (memory : List ℕ) → CogLife → Option ℕ → Type 0
Counts memory life counter = (b : Begun) (ts : List Turn) → stands_for life b ts → IsAnnouncing (announced_in life) → IsCounterOf memory b ts counter

abbrev pub AreAnnounced : (sayings : List Next) → (lives : List CogLife) → Type 0
AreAnnounced sayings lives = (n : ℕ) (life : CogLife) (said : Next) → slice_get lives n ≡ Some life → slice_get sayings n ≡ Some said → HasAnnounced life said

module _ (asked : Begun → List Turn → ℕ → Access → Type 0) where
  -- a life has begun, and told this of its first access
  pub record Begins (life : CogLife) (began : Begun) (until : ℕ) (next : Next) : Type 0 where
    pub stands : stands_for life began []
    pub tells : Tells (asked began []) until next
    pub spoken : IsSpoken next

  -- a life has taken a turn, and told this of its next access
  pub record Takes (before after : CogLife) (turn : Turn) (until : ℕ) (next : Next) : Type 0 where
    pub keeps : (b : Begun) (ts : List Turn) → stands_for before b ts → stands_for after b (ts ++ turn ∷ [])
    pub tells : (b : Begun) (ts : List Turn) → stands_for before b ts → Tells (asked b (ts ++ turn ∷ [])) until next
    pub spoken : IsSpoken next
