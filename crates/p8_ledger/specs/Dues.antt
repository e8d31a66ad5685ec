-- internal
-- What stands at the front of a cog.
use Rattle.std.specs.Prelude.{ℕ, ◌≡◌, true, List, Option, Some, None, slice_get}
use Rattle.std.proofs.Props.{props}
use Rattle.p8_access.specs.declared.kinds.Access.{Access}
use Rattle.p8_access.specs.declared.kinds.Access.TheVariants.{CogInit}
use Rattle.p8_access.specs.declared.kinds.Origin.{Origin}
use Rattle.p8_access.specs.declared.kinds.Origin.TheVariants.{Pasm, Spin}
use Rattle.p8_access.specs.declared.kinds.Answer.{Answer}
use Rattle.p8_access.specs.declared.kinds.Answer.TheVariants.{Done, Value, Number, Was}
use Rattle.p8_access.specs.declared.lives.Next.{Next}
use Rattle.p8_access.specs.declared.lives.Next.TheVariants.{At, Quiet, More}
use Rattle.p8_access.specs.Lives.{IsMade, IsMadeNext, announced_by}
use Rattle.p8_access.specs.Proper.{IsProper, IsNumber, IsProperOrigin}
use Rattle.p8_access.specs.declared.states.CogState.TheVariants.{Running}
use Rattle.p8_access.specs.Worlds.{World}
use Rattle.p8_access.specs.Hub.{cog_state, change_by}
use Rattle.p8_access.specs.Histories.{IsNext}
use Rattle.p8_cog.specs.Lives.{asks}
use Rattle.p8_ledger.specs.Standing.{FitsState}
use Rattle.p8_ledger.specs.Waiting.{test_in, IsNextAt}
use Rattle.p8_ledger.specs.declared.due.Due.{Due}
use Rattle.p8_ledger.specs.Records.{Record, turns, said}

-- the number that an answer has
abbrev pub number_of : Answer → Option ℕ
number_of (Number n) = n
number_of Done = None
number_of (Value value) = None
number_of (Was set) = None

-- a cog's next access at a clock, or its promise
abbrev pub IsDueAt : World → Record → (n clock : ℕ) → Option Due → Type 0
IsDueAt w r n clock None = ((origin : Origin) × (cog_state w (turns r) n ≡ Running origin)) × (said n r ≡ More clock)
IsDueAt w r n clock (Some due) =
    IsNext asks w (turns r) n clock due.access × FitsState due.running (cog_state w (turns r) n)

-- an access that may be answered at a clock; that of a running cog is the one that it has said
pub record Suits (sayings : List Next) (n clock : ℕ) (due : Due) : Type 0 where
  pub proper : IsProper due.access
  pub made : due.running ≡ true → IsMade due.access
  pub next : (said : Next) → due.running ≡ true → slice_get sayings n ≡ Some said → IsNextAt (announced_by said) clock (Some due.access)

abbrev pub SuitsIf : List Next → (n clock : ℕ) → Option Due → Type 0
SuitsIf sayings n clock None = Unit {0}
SuitsIf sayings n clock (Some due) = Suits sayings n clock due

-- an access that is no wait is said to come at this clock
abbrev pub IsPlain : Next → (clock : ℕ) → Type 0
IsPlain (At earliest access) clock = (earliest ≡ clock) × (test_in access ≡ None)
IsPlain Quiet clock = ⊥
IsPlain (More bound) clock = ⊥

abbrev pub IsPlainIn : List Next → (n clock : ℕ) → Type 0
IsPlainIn sayings n clock = (said : Next) → slice_get sayings n ≡ Some said → IsPlain said clock

-- an access that starts or stops no cog
abbrev pub LeavesCogs : Access → Type 0
LeavesCogs access = (n clock cog : ℕ) (answer : Answer) → change_by n clock cog access answer ≡ None

-- what is said has accesses that a life makes
abbrev pub AllMade : List Next → Type 0
AllMade sayings = (n : ℕ) (next : Next) → slice_get sayings n ≡ Some next → IsMadeNext next

-- such a fact has one proof
is_prop-IsNumber : (n : Option ℕ) → IsProp (IsNumber n)
is_prop-IsNumber None = hlevel props
is_prop-IsNumber (Some n) = hlevel props

is_prop-IsProperOrigin : (origin : Origin) → IsProp (IsProperOrigin origin)
is_prop-IsProperOrigin (Pasm code par) = hlevel props
is_prop-IsProperOrigin (Spin entry pbase vbase frame size) = hlevel props

is_prop-IsMade : (access : Access) → IsProp (IsMade access)
is_prop-IsMade (CogInit target origin) = hlevel (props, is_prop-IsNumber target, is_prop-IsProperOrigin origin)
is_prop-IsMade _ = hlevel props

is_prop-IsMadeNext : (next : Next) → IsProp (IsMadeNext next)
is_prop-IsMadeNext (At clock access) = is_prop-IsMade access
is_prop-IsMadeNext Quiet = hlevel props
is_prop-IsMadeNext (More bound) = hlevel props

pub is_prop-AllMade : (sayings : List Next) → IsProp (AllMade sayings)
is_prop-AllMade sayings = hlevel (props, is_prop-IsMadeNext)
