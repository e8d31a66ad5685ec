-- The fronts of the cogs, and which comes first.
use Rattle.std.proofs.Common.{◌≡◌, ◌∙◌, sym, subst, refl, ℕ, ◌+◌, ◌^◌, ◌<◌, ◌≤◌, List, Option, Some, None, slice_index, arith, inl, inr}
use Rattle.p8_access.specs.declared.kinds.Test.{Test}
use Rattle.p8_access.specs.declared.lives.Next.{Next}
use Rattle.p8_access.specs.declared.lives.Next.TheVariants.{At, Quiet, More}
use Rattle.p8_access.specs.declared.order.Key.{Key}
use Rattle.p8_access.specs.declared.order.Turn.{Turn}
use Rattle.p8_access.specs.Windows.{Before, window_of}
use Rattle.p8_access.specs.declared.states.CogState.{CogState}
use Rattle.p8_access.specs.declared.states.CogState.TheVariants.{Stopped, Starting, Running}
use Rattle.p8_access.specs.Worlds.{World}
use Rattle.p8_access.specs.Hub.{cog_state}
use Rattle.p8_pins.specs.Matches.{IsBefore}
use Rattle.p8_ledger.specs.Waiting.{test_in, Wakes, IsFirstWake, IsDecided}
use Rattle.p8_ledger.specs.Records.{Record, turns, said}
use Rattle.p8_ledger.specs.Coming.{MayBe, MayRun, MayComeIn, MayCome, said_test, waits_for, IsFrom, WaitsFrom, IsClockIn, IsFirstKey}
use Rattle.p8_ledger.specs.Fronts.{IsFirstOf, IsSaidFront, IsFront}
use Rattle.p8_ledger.proofs.Coming.{may-late}
use Rattle.p8_ledger.proofs.Firsts.{near-far}

none-some : {A : Type 0} → (o : Option Test) → (t : Test) → o ≡ None → o ≡ Some t → A
none-some o t p q = absurd (let e : None ≡ Some t = sym p ∙ q in cc)

module _ (w : World) (past : List Turn) (n limit front : ℕ) (test : Option Test) where
  -- nothing of a cog comes before its front
  least-said : (next : Next) → IsSaidFront limit next front test → (u : ℕ) → MayRun w past n next u → front ≤ u
  least-said (At earliest access) f u may =
      let late : earliest ≤ u = may-late w past n (test_in access) earliest u may in
      let at : front ≡ earliest = f.0 in
      omega arith
  least-said Quiet f u may = absurd may
  least-said (More bound) f u may = let at : front ≡ bound = f.0 in let here : u ≡ bound = may in omega arith

  least-in : (s : CogState) (next : Next) → IsFront n limit s next front test → (u : ℕ) → MayComeIn w past n s next u → u < limit → front ≤ u
  least-in Stopped next f u may below = absurd may
  least-in (Starting since origin) next f u may below =
      let at : front ≡ window_of n (since + 1) = f.1 (subst (λ (c : ℕ). c < limit) may below) in
      let here : u ≡ window_of n (since + 1) = may in
      subst (λ (c : ℕ). c ≤ u) (here ∙ sym at) (omega arith)
  least-in (Running origin) next f u may below = least-said next f u may

  -- where it doesn't wait, it comes at its front
  comes-said : (next : Next) → IsSaidFront limit next front test → test ≡ None → front < limit → MayRun w past n next front
  comes-said (At earliest access) f plain below = subst (λ (t : Option Test). MayBe w past n t earliest front) (sym plain ∙ f.1) f.0
  comes-said Quiet f plain below = absurd (let late : limit ≤ front = f.0 in omega arith)
  comes-said (More bound) f plain below = f.0

  comes-in : (s : CogState) (next : Next) → IsFront n limit s next front test → test ≡ None → front < limit → MayComeIn w past n s next front
  comes-in Stopped next f plain below = absurd (let late : limit ≤ front = f.0 in omega arith)
  comes-in (Starting since origin) next f plain below = f.0 below
  comes-in (Running origin) next f plain below = comes-said next f plain below

  module _ (waited : Test) (waits : test ≡ Some waited) where
    -- where it waits, it comes where the wait may end
    wakes-said : (next : Next) → IsSaidFront limit next front test → (u : ℕ) → MayRun w past n next u → (said_test next ≡ Some waited) × Wakes w past n waited front u
    wakes-said (At earliest access) f u may =
        let same : test_in access ≡ Some waited = sym f.1 ∙ waits in
        (same, subst (λ (e : ℕ). Wakes w past n waited e u) (sym f.0) (subst (λ (t : Option Test). MayBe w past n t earliest u) same may))
    wakes-said Quiet f u may = absurd may
    wakes-said (More bound) f u may = none-some test waited f.1 waits

    wakes-in : (s : CogState) (next : Next) → IsFront n limit s next front test → (u : ℕ) → MayComeIn w past n s next u → (waits_for s next ≡ Some waited) × Wakes w past n waited front u
    wakes-in Stopped next f u may = absurd may
    wakes-in (Starting since origin) next f u may = none-some test waited f.2 waits
    wakes-in (Running origin) next f u may = wakes-said next f u may

    woken-said : (next : Next) → IsSaidFront limit next front test → (u : ℕ) → Wakes w past n waited front u → MayRun w past n next u
    woken-said (At earliest access) f u wakes =
        let same : test_in access ≡ Some waited = sym f.1 ∙ waits in
        subst (λ (t : Option Test). MayBe w past n t earliest u) (sym same) (subst (λ (e : ℕ). Wakes w past n waited e u) f.0 wakes)
    woken-said Quiet f u wakes = none-some test waited f.1 waits
    woken-said (More bound) f u wakes = none-some test waited f.1 waits

    woken-in : (s : CogState) (next : Next) → IsFront n limit s next front test → (u : ℕ) → Wakes w past n waited front u → MayComeIn w past n s next u
    woken-in Stopped next f u wakes = none-some test waited f.1 waits
    woken-in (Starting since origin) next f u wakes = none-some test waited f.2 waits
    woken-in (Running origin) next f u wakes = woken-said next f u wakes

module _ (w : World) (r : Record) (n front : ℕ) (test : Option Test) (f : IsFront n w.clocks (cog_state w (turns r) n) (said n r) front test) where
  front-least : (u : ℕ) → MayCome w r n u → front ≤ u
  front-least u comes = least-in w (turns r) n w.clocks front test (cog_state w (turns r) n) (said n r) f u comes.may comes.below

  pub front-comes : test ≡ None → front < w.clocks → MayCome w r n front
  front-comes plain below = record {
    may = comes-in w (turns r) n w.clocks front test (cog_state w (turns r) n) (said n r) f plain below;
    below = below;
  }

  module _ (end : Option ℕ) where
    -- the clock of a cog that doesn't wait is its front
    pub clock-plain : test ≡ None → IsClockIn w r end n front
    clock-plain plain = record { least = λ u before comes. front-least u comes; comes = λ below. front-comes plain below }

    module _ (waited : Test) (waits : test ≡ Some waited) (from : ℕ) (late : WaitsFrom w r from) where
      wakes : (u : ℕ) → MayCome w r n u → (waits_for (cog_state w (turns r) n) (said n r) ≡ Some waited) × Wakes w (turns r) n waited front u
      wakes u comes = wakes-in w (turns r) n w.clocks front test waited waits (cog_state w (turns r) n) (said n r) f u comes.may

      from-wait : (u : ℕ) → MayCome w r n u → from ≤ u
      from-wait u comes = subst (λ (t : Option Test). IsFrom t from u) (wakes u comes).0 (late n u comes)

      -- the clock of a cog that waits, and where the wait doesn't end before the end of the span
      pub clock-silent : (never : ℕ) → w.clocks ≤ never → w.clocks ≤ 2 ^ 62 → IsFirstWake w (turns r) n waited front from end None → IsClockIn w r end n never
      clock-silent never far small none = record {
        least = λ u before comes.
            let below : u < w.clocks = comes.below in
            absurd (none u (from-wait u comes) before (omega arith) (wakes u comes).1);
        comes = λ below. absurd (omega arith);
      }

      pub clock-woken : (clock : ℕ) → IsFirstWake w (turns r) n waited front from end (Some clock) → IsClockIn w r end n clock
      clock-woken clock first = record {
        least = λ u before comes. first.1 u (from-wait u comes) before (wakes u comes).1;
        comes = λ below. record {
          may = woken-in w (turns r) n w.clocks front test waited waits (cog_state w (turns r) n) (said n r) f clock first.0;
          below = below;
        };
      }

from-late : (test : Option Test) (from clock : ℕ) → from ≤ clock → IsFrom test from clock
from-late None from clock late = tt
from-late (Some test) from clock late = late

-- what comes before a key isn't later
not-later : (a b : Key) → Before a b → a.clock ≤ b.clock
not-later a b before = elim before [ inl less ↦ omega arith | inr same ↦ (let e : a.clock ≡ b.clock = same.0 in omega arith) ]

-- a front below the limit is one
one-said : (limit : ℕ) (next : Next) (c d : ℕ) (t u : Option Test) → c < limit → IsSaidFront limit next c t → IsSaidFront limit next d u → c ≡ d
one-said limit (At earliest access) c d t u below f g = f.0 ∙ sym g.0
one-said limit Quiet c d t u below f g = absurd (let far : limit ≤ c = f.0 in omega arith)
one-said limit (More bound) c d t u below f g = f.0 ∙ sym g.0

one-front : (n limit : ℕ) (s : CogState) (next : Next) (c d : ℕ) (t u : Option Test) → c < limit → IsFront n limit s next c t → IsFront n limit s next d u → c ≡ d
one-front n limit Stopped next c d t u below f g = absurd (let far : limit ≤ c = f.0 in omega arith)
one-front n limit (Starting since origin) next c d t u below f g =
    let at : c ≡ window_of n (since + 1) = f.0 below in
    at ∙ sym (g.1 (subst (λ (x : ℕ). x < limit) at below))
one-front n limit (Running origin) next c d t u below f g = one-said limit next c d t u below f g

module _ (w : World) (r : Record) where
  module _ (others : (n : ℕ) → 8 ≤ n → cog_state w (turns r) n ≡ Stopped) where
    far-none : (n u : ℕ) → 8 ≤ n → MayCome w r n u → ⊥
    far-none n u far comes = subst (λ (s : CogState). MayComeIn w (turns r) n s (said n r) u) (others n far) comes.may

    -- nothing comes before the first of clocks that are early enough
    key-first : (clocks : List ℕ) (key : Key) (end : Option ℕ) → IsFirstOf clocks key → ((n : ℕ) → n < 8 → (u : ℕ) → IsBefore u end → MayCome w r n u → slice_index clocks n ≤ u) → (n u : ℕ) → IsBefore u end → MayCome w r n u → Before (record { clock = u; cog = n }) key → ⊥
    key-first clocks key end first early n u within comes before =
        elim (near-far n 8) [
          | inr far ↦ far-none n u far comes
          | inl near ↦
              (let on : slice_index clocks n ≤ u = early n near u within comes in
              let late : slice_index clocks n < key.clock → ⊥ = λ l. first.first n near (inl l) in
              elim before [
                | inl less ↦ omega arith
                | inr same ↦
                    (let e : u ≡ key.clock = same.0 in
                    let at : slice_index clocks n ≡ key.clock = omega arith in
                    first.first n near (inr (at, same.1)))
              ])
        ]

    pub first-in : (clocks : List ℕ) (key : Key) (end : Option ℕ) → IsFirstOf clocks key → ((n : ℕ) → n < 8 → IsClockIn w r end n (slice_index clocks n)) → IsFirstKey w r end key
    first-in clocks key end first each = record {
      first = key-first clocks key end first (λ n near. (each n near).least);
      comes = λ below. subst (λ (c : ℕ). MayCome w r key.cog c) (sym first.there) ((each key.cog first.near).comes (subst (λ (c : ℕ). c < w.clocks) first.there below));
    }

    -- where the cog with the least front doesn't wait, that front is a key
    pub fast-first : (clocks : List ℕ) (key : Key) → IsFirstOf clocks key → ((n : ℕ) → n < 8 → (test : Option Test) × IsFront n w.clocks (cog_state w (turns r) n) (said n r) (slice_index clocks n) test) → (front : ℕ) → IsFront key.cog w.clocks (cog_state w (turns r) key.cog) (said key.cog r) front None → IsFirstKey w r None key
    fast-first clocks key first each front front_is = record {
      first = key-first clocks key None first (λ n near u _ comes. (let own = each n near in front-least w r n (slice_index clocks n) own.0 own.1 u comes));
      comes = λ below.
          let own = each key.cog first.near in
          let at : slice_index clocks key.cog < w.clocks = subst (λ (c : ℕ). c < w.clocks) first.there below in
          let same : slice_index clocks key.cog ≡ front = one-front key.cog w.clocks (cog_state w (turns r) key.cog) (said key.cog r) (slice_index clocks key.cog) front own.0 None at own.1 front_is in
          subst (λ (c : ℕ). MayCome w r key.cog c) (sym (first.there ∙ same)) (front-comes w r key.cog front None front_is refl (subst (λ (c : ℕ). c < w.clocks) same at));
    }

  -- what is first before an end is first of all where nothing later can come before it
  pub first-decided : (key : Key) (end : Option ℕ) → IsFirstKey w r end key → IsDecided key.clock end w.clocks → IsFirstKey w r None key
  first-decided key None first decided = first
  first-decided key (Some end) first decided = record {
    first = λ n u _ comes before.
        elim (near-far u end) [
          | inl less ↦ first.first n u less comes before
          | inr late ↦
              (let on : u ≤ key.clock = not-later (record { clock = u; cog = n }) key before in
              let below : u < w.clocks = comes.below in
              let far : w.clocks ≤ end = decided (omega arith) in
              omega arith)
        ];
    comes = first.comes;
  }

  -- else no wait ends before the end
  pub first-moves : (key : Key) (end : Option ℕ) (from : ℕ) → IsFirstKey w r end key → end ≡ Some from → from ≤ key.clock → WaitsFrom w r from
  first-moves key end from first is late n u comes =
      from-late (waits_for (cog_state w (turns r) n) (said n r)) from u
      (elim (near-far u from) [
        | inl less ↦ absurd (first.first n u (subst (λ (o : Option ℕ). IsBefore u o) (sym is) less) comes (inl (omega arith)))
        | inr on ↦ on
      ])
