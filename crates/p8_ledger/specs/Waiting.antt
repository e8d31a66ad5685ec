-- The clocks at which a wait may end. It ends at the least of them.
use Rattle.std.specs.Prelude.{ℕ, ◌^◌, ◌≡◌, ◌<◌, ◌≤◌, List, [], ◌∷◌, Option, Some, None}
use Rattle.p8_access.specs.declared.kinds.Test.{Test}
use Rattle.p8_access.specs.declared.kinds.Access.{Access}
use Rattle.p8_access.specs.declared.kinds.Access.TheVariants.{Wait}
use Rattle.p8_access.specs.declared.order.Key.{Key}
use Rattle.p8_access.specs.declared.order.Turn.{Turn}
use Rattle.p8_access.specs.Windows.{Before}
use Rattle.p8_access.specs.Worlds.{World, Line, level_at}
use Rattle.p8_access.specs.Pins.{pins_at, Holds}
use Rattle.p8_access.specs.Histories.{IsAfter}
use Rattle.p8_pins.specs.Matches.{IsBefore}
use Rattle.p8_pins.specs.declared.spans.Span.{Span}

-- the test of a wait
abbrev pub test_in : Access → Option Test
test_in (Wait test) = Some test
test_in _ = None

-- the key of the newest turn
abbrev pub newest_key : List Turn → Option Key
newest_key [] = None
newest_key (turn ∷ past) = Some turn.key

-- a key comes after that one, if there is one
abbrev pub IsBehind : Option Key → Key → Type 0
IsBehind None key = Unit {0}
IsBehind (Some last) key = Before last key

-- a wait may end at a clock: it isn't before its earliest one, comes after the past, and the test holds
pub record Wakes (w : World) (past : List Turn) (n : ℕ) (test : Test) (earliest clock : ℕ) : Type 0 where
  pub not_before : earliest ≤ clock
  pub after : IsAfter past (record { clock = clock; cog = n })
  pub holds : Holds test (pins_at w past clock) clock

-- a span of a script begins at a clock, or before it
abbrev pub IsSpanFrom : List Line → ℕ → Span → Type 0
IsSpanFrom script from span = (u : ℕ) → from ≤ u → IsBefore u span.end → level_at script u ≡ span.levels

-- the least clock at which a wait may end, or None where there is none from a clock on, before an end
-- and below 2^62
abbrev pub IsFirstWake : World → List Turn → ℕ → Test → (earliest from : ℕ) → Option ℕ → Option ℕ → Type 0
IsFirstWake w past n test earliest from end None =
    (u : ℕ) → from ≤ u → IsBefore u end → u < 2 ^ 62 → Wakes w past n test earliest u → ⊥
IsFirstWake w past n test earliest from end (Some clock) =
    Wakes w past n test earliest clock × ((u : ℕ) → from ≤ u → IsBefore u end → Wakes w past n test earliest u → clock ≤ u)

-- a clock at which an access that is asked from an earliest clock on has its turn
abbrev pub IsTimely : Option Test → (earliest clock : ℕ) → Type 0
IsTimely None earliest clock = earliest ≡ clock
IsTimely (Some test) earliest clock = earliest ≤ clock

-- the access that is asked next, where it may have its turn at a clock
abbrev pub IsNextAt : Option (ℕ × Access) → ℕ → Option Access → Type 0
IsNextAt None clock got = got ≡ None
IsNextAt (Some next) clock None = IsTimely (test_in next.1) next.0 clock → ⊥
IsNextAt (Some next) clock (Some access) = (access ≡ next.1) × IsTimely (test_in next.1) next.0 clock

-- what comes at an end or later doesn't come before a clock that was found, or isn't below the limit
abbrev pub IsDecided : (first : ℕ) → Option ℕ → (limit : ℕ) → Type 0
IsDecided first None limit = Unit {0}
IsDecided first (Some end) limit = end ≤ first → limit ≤ end
