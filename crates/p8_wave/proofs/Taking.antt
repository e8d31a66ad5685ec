-- The turns up to a clock, where the keys of a past rise.
use Rattle.std.proofs.Common.{◌≡◌, ◌∙◌, refl, sym, ap, subst, ℕ, ◌<◌, ◌≤◌, List, [], ◌∷◌, ◌++◌, true, false, nat_le, reverse, length, drop, get_or, append_assoc, arith, inl, inr}
use Rattle.std.proofs.lemmas.List.{reverse-append}
use Rattle.std.proofs.lemmas.List.Elements.{filter-append}
use Rattle.std.proofs.lemmas.Bool.Decides.{nat_tests}
use Rattle.std.proofs.lemmas.Bool.{cases_lt}
use Rattle.p8_access.specs.declared.order.Turn.{Turn}
use Rattle.p8_access.specs.Histories.{Rises}
use Rattle.p8_access.specs.Worlds.{World}
use Rattle.p8_wave.specs.declared.signals.Signals.{Signals}
use Rattle.p8_pins.specs.Levels.{by}
use Rattle.p8_wave.specs.Following.{AreSignals}
use Rattle.p8_wave.specs.Walks.{taken_by, left_by, IsLater, IsTaking}

-- all of these are at or before a clock, or all after it
abbrev pub AllBy : ℕ → List Turn → Type 0
AllBy clock [] = Unit {0}
AllBy clock (turn ∷ turns) = (turn.key.clock ≤ clock) × AllBy clock turns

abbrev pub AllAfter : ℕ → List Turn → Type 0
AllAfter clock [] = Unit {0}
AllAfter clock (turn ∷ turns) = (clock < turn.key.clock) × AllAfter clock turns

by_later : (c d : ℕ) (turns : List Turn) → c ≤ d → AllBy c turns → AllBy d turns
by_later c d [] more all = tt
by_later c d (turn ∷ turns) more (here, rest) = (omega arith, by_later c d turns more rest)

after_push : (c : ℕ) (turns : List Turn) (turn : Turn) → AllAfter c turns → c < turn.key.clock → AllAfter c (turns ++ turn ∷ [])
after_push c [] turn all here = (here, tt)
after_push c (x ∷ turns) turn (first, all) here = (first, after_push c turns turn all here)

keep_all : (c : ℕ) (turns : List Turn) → AllBy c turns → by turns c ≡ turns
keep_all c [] all = refl
keep_all c (turn ∷ turns) (here, rest) =
    let test : nat_le turn.key.clock c ≡ true = grind (arith, nat_tests) in
    rw test (ap (λ xs. turn ∷ xs) (keep_all c turns rest))

keep_none : (c : ℕ) (turns : List Turn) → AllAfter c turns → by turns c ≡ []
keep_none c [] all = refl
keep_none c (turn ∷ turns) (here, rest) =
    let test : nat_le turn.key.clock c ≡ false = grind (arith, nat_tests) in
    rw test (keep_none c turns rest)

kept_by : (c : ℕ) (turns : List Turn) → AllBy c (by turns c)
kept_by c [] = tt
kept_by c (turn ∷ turns) = elim (cases_lt c turn.key.clock) [
  | inr h ↦ let test : nat_le turn.key.clock c ≡ true = grind (arith, nat_tests) in rw test (h, kept_by c turns)
  | inl h ↦ let test : nat_le turn.key.clock c ≡ false = grind (arith, nat_tests) in rw test (kept_by c turns)
]

-- what comes after a turn is at its clock or later
rest_after : (xs : List Turn) (turn : Turn) (done : List Turn) (c : ℕ) → Rises (xs ++ turn ∷ done) → c < turn.key.clock → AllAfter c xs
rest_after [] turn done c rises below = tt
rest_after (x ∷ []) turn done c (rises, after) below = (elim after [ inl h ↦ omega (arith, h) | inr h ↦ omega (arith, h.0) ], tt)
rest_after (x ∷ (y ∷ xs)) turn done c (rises, after) below =
    let rest = rest_after (y ∷ xs) turn done c rises below in
    (elim after [ inl h ↦ omega (arith, h, rest.0) | inr h ↦ omega (arith, h.0, rest.0) ], rest)

-- one more turn is taken
moved : (turn : Turn) (left done : List Turn) → reverse (turn ∷ left) ++ done ≡ reverse left ++ turn ∷ done
moved turn left done = ap (λ xs. xs ++ done) (reverse-append (turn ∷ []) left) ∙ append_assoc (reverse left) (turn ∷ []) done

pub taken : (c : ℕ) (left done : List Turn) → Rises (reverse left ++ done) → AllBy c done
    → by (reverse left ++ done) c ≡ taken_by c left done
taken c [] done rises all = keep_all c done all
taken c (turn ∷ left) done rises all = elim (cases_lt c turn.key.clock) [
  | inr h ↦
      let test : nat_le turn.key.clock c ≡ true = grind (arith, nat_tests) in
      ap (λ ts. by ts c) (moved turn left done) ∙ rw test (taken c left (turn ∷ done) (subst Rises (moved turn left done) rises) (h, all))
  | inl h ↦
      let test : nat_le turn.key.clock c ≡ false = grind (arith, nat_tests) in
      let after = rest_after (reverse left) turn done c (subst Rises (moved turn left done) rises) h in
      filter-append (λ (t : Turn). nat_le t.key.clock c) (reverse (turn ∷ left)) done
      ∙ ap (λ xs. xs ++ by done c) (keep_none c (reverse (turn ∷ left)) (subst (AllAfter c) (sym (reverse-append (turn ∷ []) left)) (after_push c (reverse left) turn after h)))
      ∙ keep_all c done all
      ∙ rw test refl
]

pub split_taken : (c : ℕ) (left done : List Turn) → reverse (left_by c left) ++ taken_by c left done ≡ reverse left ++ done
split_taken c [] done = refl
split_taken c (turn ∷ left) done = elim (cases_lt c turn.key.clock) [
  | inr h ↦
      let test : nat_le turn.key.clock c ≡ true = grind (arith, nat_tests) in
      rw test (split_taken c left (turn ∷ done) ∙ sym (moved turn left done))
  | inl h ↦ let test : nat_le turn.key.clock c ≡ false = grind (arith, nat_tests) in rw test refl
]

pub left_later : (c : ℕ) (left : List Turn) → IsLater c (left_by c left)
left_later c [] = tt
left_later c (turn ∷ left) = elim (cases_lt c turn.key.clock) [
  | inr h ↦ let test : nat_le turn.key.clock c ≡ true = grind (arith, nat_tests) in rw test (left_later c left)
  | inl h ↦ let test : nat_le turn.key.clock c ≡ false = grind (arith, nat_tests) in rw test h
]

-- the first is taken
pub left_step : (c : ℕ) (left : List Turn) (d : Turn) → 1 ≤ length left → (get_or left 0 d).key.clock ≤ c → left_by c (drop 1 left) ≡ left_by c left
left_step c [] d some by = absurd (omega arith)
left_step c (turn ∷ left) d some by = let test : nat_le turn.key.clock c ≡ true = grind (arith, nat_tests) in rw test refl

pub taken_step : (c : ℕ) (left done : List Turn) (d : Turn) → 1 ≤ length left → (get_or left 0 d).key.clock ≤ c → taken_by c (drop 1 left) (get_or left 0 d ∷ done) ≡ taken_by c left done
taken_step c [] done d some by = absurd (omega arith)
taken_step c (turn ∷ left) done d some by = let test : nat_le turn.key.clock c ≡ true = grind (arith, nat_tests) in rw test refl

pub taking_step : (w : World) (c : ℕ) (turns past left left' : List Turn) (s s' : Signals) (d : Turn) → 1 ≤ length left → (get_or left 0 d).key.clock ≤ c → left' ≡ drop 1 left
    → ((done : List Turn) → AreSignals w done s → AreSignals w (get_or left 0 d ∷ done) s') → IsTaking w c turns past left s → IsTaking w c turns past left' s'
taking_step w c turns past left left' s s' d some by is_left noted taking = record {
  done = get_or left 0 d ∷ taking.done;
  signals = noted taking.done taking.signals;
  rest = rw is_left (taken_step c left taking.done d some by ∙ taking.rest);
}

-- nothing is taken where the first comes later
pub none_taken : (c : ℕ) (left done : List Turn) → IsLater c left → taken_by c left done ≡ done
none_taken c [] done later = refl
none_taken c (turn ∷ left) done later = let test : nat_le turn.key.clock c ≡ false = grind (arith, nat_tests) in rw test refl

-- from one clock to a later one
module _ (before clock : ℕ) (past left : List Turn) (later : before ≤ clock) (rises : Rises past) (split : past ≡ reverse left ++ by past before) where
  pub taken_on : by past clock ≡ taken_by clock left (by past before)
  taken_on =
      ap (λ ts. by ts clock) split ∙ taken clock left (by past before) (subst Rises split rises) (by_later before clock (by past before) later (kept_by before past))

  pub split_on : past ≡ reverse (left_by clock left) ++ by past clock
  split_on =
      split ∙ sym (split_taken clock left (by past before)) ∙ ap (λ xs. reverse (left_by clock left) ++ xs) (sym taken_on)

  pub same_on : IsLater clock left → by past clock ≡ by past before
  same_on first = taken_on ∙ none_taken clock left (by past before) first
