-- Maps whose keys are looked up by their bytes.
use Rattle.std.proofs.Common.{◌≡◌, ℕ, Bool, true, false, List, [], Option, Some, None, inl, inr, sym, ◌∙◌, ap}
use Rattle.std.specs.Prelude.{Vec, Result, Ok, Err, OnErr}
use Rattle.std.specs.declared.cmp.Ordering.{Ordering}
use Rattle.std.specs.BTreeMap.{BTreeMap, UpdatesBy, is_at}
use Rattle.std.specs.Ordering.{is_eq, nat_cmp, eq_by_cmp}
use Rattle.std.specs.Cmp.{eq_by_cmp_equiv}
use Rattle.std.specs.Cmp.Lexicographic.{slice_cmp, nat_list_cmp_total, nat_list_eq_equiv}
use Rattle.std.specs.Str.{bytes_eq}
use Rattle.std.specs.Map.{lookup, IsKeyTest, AreApart, KeepsOthers}
use Rattle.std.specs.declared.alloc.Global.{Global}
use Rattle.std.proofs.lemmas.Map.Text.{is_eq-slice_cmp}
use Rattle.std.proofs.lemmas.Bool.{false_from_ne_true}
use Rattle.std.proofs.lemmas.Slice.Eq.{bytes_eq-Decides}
use Rattle.std.proofs.lemmas.Bool.{cases_Bool}
use Rattle.p8_fold.specs.ConstantEntries.{at_bytes, at_both}

abbrev pub Key : Type 0
Key = Vec ℕ Global

abbrev pub key_cmp : Key → Key → Ordering
key_cmp x y = slice_cmp nat_cmp x.items y.items

-- bytes that differ are equal to no one key
apart : (bs cs ks : List ℕ) → bytes_eq bs cs ≡ false → is_eq (slice_cmp nat_cmp bs ks) ≡ true → is_eq (slice_cmp nat_cmp cs ks) ≡ false
apart bs cs ks n y =
    is_eq-slice_cmp cs ks ∙ nat_list_eq_equiv.symm cs ks ∙ sym (nat_list_eq_equiv.congr bs ks cs (sym (is_eq-slice_cmp bs ks) ∙ y)) ∙ n

differ : (bs cs : List ℕ) → ¬ (cs ≡ bs) → bytes_eq bs cs ≡ false
differ bs cs ne = false_from_ne_true _ (λ same. ne (sym ((bytes_eq-Decides bs cs).0 same)))

kept : {X : Type 0} (test : Key → Bool) (old new : List (Key × X)) → KeepsOthers (eq_by_cmp key_cmp) test old new → (other : Key → Bool) → IsKeyTest (eq_by_cmp key_cmp) other → AreApart test other → lookup other new ≡ lookup other old
unfolding KeepsOthers
kept test old new h = h

-- a change at one key leaves what stands at other bytes
pub at_others : {X : Type 0} (bs : List ℕ) (m n : BTreeMap Key X) (w : Option X) → UpdatesBy key_cmp (λ k. slice_cmp nat_cmp bs k.items) m n w → (cs : List ℕ) → ¬ (cs ≡ bs) → at_bytes cs n ≡ at_bytes cs m
at_others bs m n w h cs ne =
    kept (is_at (λ k. slice_cmp nat_cmp bs k.items)) m.entries n.entries h.3 (is_at (λ k. slice_cmp nat_cmp cs k.items))
    (λ x y. (eq_by_cmp_equiv nat_list_cmp_total).congr cs x.items y.items) (λ k. apart bs cs k.items (differ bs cs ne))

pub at_bytes-empty : {X : Type 0} (m : BTreeMap Key X) (bs : List ℕ) → m.entries ≡ [] → at_bytes bs m ≡ None
at_bytes-empty m bs e = ap (lookup (is_at (λ k. slice_cmp nat_cmp bs k.items))) e

pub OnErr-to : {T E : Type 0} {P Q : Type 0} (r : Result T E) → (P → Q) → OnErr r P → OnErr r Q
OnErr-to (Ok x) f h = tt
OnErr-to (Err e) f h = f h

unlike : {b : Bool} {P : Type 0} → (P → b ≡ true) → b ≡ false → ¬ P
unlike to not p = let so = to p in absurd cc

module _ {X : Type 0} (old new : BTreeMap Key (BTreeMap Key X)) (object : List ℕ) (after : BTreeMap Key X) (here : at_bytes object new ≡ Some after) (others : (cs : List ℕ) → ¬ (cs ≡ object) → at_bytes cs new ≡ at_bytes cs old) where
  at_object : (o n : List ℕ) → o ≡ object → at_bytes n after ≡ at_both n (at_bytes object old) → at_both n (at_bytes o new) ≡ at_both n (at_bytes o old)
  at_object o n same e = ap (λ o. at_both n (at_bytes o new)) same ∙ ap (at_both n) here ∙ e ∙ ap (λ o. at_both n (at_bytes o old)) (sym same)

  -- where one of the maps has changed at one name
  pub at_other_names : (name : List ℕ) → ((n : List ℕ) → ¬ (n ≡ name) → at_bytes n after ≡ at_both n (at_bytes object old)) → (o n : List ℕ) → ¬ ((o ≡ object) × (n ≡ name)) → at_both n (at_bytes o new) ≡ at_both n (at_bytes o old)
  at_other_names name same_names o n ne =
      elim (cases_Bool (bytes_eq o object)) [
        | inl here_too ↦ let same : o ≡ object = (bytes_eq-Decides o object).0 here_too in at_object o n same (same_names n (λ e. ne (same, e)))
        | inr apart_from ↦ ap (at_both n) (others o (unlike (bytes_eq-Decides o object).1 apart_from))
      ]

  -- where it has stayed
  pub at_all_names : ((n : List ℕ) → at_bytes n after ≡ at_both n (at_bytes object old)) → (o n : List ℕ) → at_both n (at_bytes o new) ≡ at_both n (at_bytes o old)
  at_all_names same_names o n =
      elim (cases_Bool (bytes_eq o object)) [
        | inl here_too ↦ at_object o n ((bytes_eq-Decides o object).0 here_too) (same_names n)
        | inr apart_from ↦ ap (at_both n) (others o (unlike (bytes_eq-Decides o object).1 apart_from))
      ]
