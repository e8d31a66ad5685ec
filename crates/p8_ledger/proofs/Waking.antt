-- The clock at which a wait ends, as a span of the script tells it.
use Rattle.std.proofs.Common.{◌≡◌, sym, subst, ℕ, ◌^◌, ◌<◌, ◌≤◌, List, Option, Some, None, arith}
use Rattle.std.specs.Prelude.{IfSome, IfNone}
use Rattle.p8_access.specs.declared.kinds.Test.{Test}
use Rattle.p8_access.specs.declared.order.Key.{Key}
use Rattle.p8_access.specs.declared.order.Turn.{Turn}
use Rattle.p8_access.specs.Worlds.{World, level_at}
use Rattle.p8_access.specs.Pins.{pins_with, dira, outputs, Holds}
use Rattle.p8_pins.specs.Matches.{IsBefore}
use Rattle.p8_pins.specs.declared.spans.Span.{Span}
use Rattle.p8_ledger.specs.Waiting.{newest_key, IsBehind, Wakes, IsSpanFrom, IsFirstWake}
use Rattle.p8_ledger.proofs.Coming.{behind-after, after-behind}

module _ (w : World) (past : List Turn) (n : ℕ) (test : Test) (earliest from first directions outs : ℕ) (span : Span) (spans : IsSpanFrom w.script from span) (directions_is : directions ≡ dira past) (outs_is : outs ≡ outputs past) (last : Option Key) (last_is : last ≡ newest_key past) where
  abbrev Waits : ℕ → Type 0
  Waits u = Holds test (pins_with directions outs span.levels) u

  -- the test holds by the span's levels
  holds-by : (u : ℕ) → from ≤ u → IsBefore u span.end → Holds test (pins_with (dira past) (outputs past) (level_at w.script u)) u → Waits u
  holds-by u le before h =
      subst (λ (l : ℕ). Holds test (pins_with directions outs l) u) (spans u le before)
      (subst (λ (d : ℕ). Holds test (pins_with d outs (level_at w.script u)) u) (sym directions_is)
      (subst (λ (o : ℕ). Holds test (pins_with (dira past) o (level_at w.script u)) u) (sym outs_is) h))

  by-holds : (u : ℕ) → from ≤ u → IsBefore u span.end → Waits u → Holds test (pins_with (dira past) (outputs past) (level_at w.script u)) u
  by-holds u le before h =
      subst (λ (o : ℕ). Holds test (pins_with (dira past) o (level_at w.script u)) u) outs_is
      (subst (λ (d : ℕ). Holds test (pins_with d outs (level_at w.script u)) u) directions_is
      (subst (λ (l : ℕ). Holds test (pins_with directions outs l) u) (sym (spans u le before)) h))

  module _ (behind : ℕ) (behind_is : (u : ℕ) → (behind ≤ u → IsBehind last (record { clock = u; cog = n })) × (IsBehind last (record { clock = u; cog = n }) → behind ≤ u)) (first_from : from ≤ first) (first_earliest : earliest ≤ first) (first_behind : behind ≤ first) (first_is : (u : ℕ) → from ≤ u → earliest ≤ u → behind ≤ u → first ≤ u) where
    -- a clock at which the wait may end isn't before the first that is looked at
    from-first : (u : ℕ) → from ≤ u → Wakes w past n test earliest u → first ≤ u
    from-first u le wakes =
        first_is u le wakes.not_before
        ((behind_is u).1 (subst (λ (l : Option Key). IsBehind l (record { clock = u; cog = n })) (sym last_is) (after-behind past (record { clock = u; cog = n }) wakes.after)))

    -- no clock was found
    pub none-woken : ((u : ℕ) → first ≤ u → u < 2 ^ 62 → IsBefore u span.end → Waits u → ⊥) → IsFirstWake w past n test earliest from span.end None
    none-woken none u le before below wakes = none u (from-first u le wakes) below before (holds-by u le before wakes.holds)

    -- one was found
    pub found-woken : (clock : ℕ) → first ≤ clock → IsBefore clock span.end → Waits clock → ((u : ℕ) → first ≤ u → Waits u → clock ≤ u) → IsFirstWake w past n test earliest from span.end (Some clock)
    found-woken clock le before holds least = (
      record {
        not_before = omega arith;
        after = behind-after past (record { clock = clock; cog = n }) (subst (λ (l : Option Key). IsBehind l (record { clock = clock; cog = n })) last_is ((behind_is clock).0 (omega arith)));
        holds = by-holds clock (omega arith) before holds;
      },
      λ u on end wakes. least u (from-first u on wakes) (holds-by u on end wakes.holds),
    )

    -- what was found or not
    pub woken : (got : Option ℕ) → IfSome got (λ (clock : ℕ). first ≤ clock) → IfSome got (λ (clock : ℕ). IsBefore clock span.end) → IfSome got Waits → IfSome got (λ (clock : ℕ). (u : ℕ) → first ≤ u → Waits u → clock ≤ u) → IfNone got ((u : ℕ) → first ≤ u → u < 2 ^ 62 → IsBefore u span.end → Waits u → ⊥) → IsFirstWake w past n test earliest from span.end got
    woken None le before holds least none = none-woken none
    woken (Some clock) le before holds least none = found-woken clock le before holds least
