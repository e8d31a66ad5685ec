-- Names that are hidden and shown again.
use Rattle.std.proofs.Common.{◌≡◌, ◌⊎◌, inl, inr, ℕ, Bool, true, false, ◌+◌, ◌<◌, ◌≤◌, List, ◌∷◌, length, drop, get_or, Option, Some, refl, ap, sym, ◌∙◌, subst}
use Rattle.std.proofs.lemmas.Bool.{cases_Bool}
use Rattle.std.proofs.lemmas.List.{drop_more, drop_all}
use Rattle.std.proofs.lemmas.Slice.Eq.{bytes_eq-Decides}
use Rattle.std.specs.Prelude.{if◌then◌else◌, IsTrue, ◌||◌}
use Rattle.std.specs.Str.{bytes_eq}
use Rattle.p8_fold.specs.declared.meanings.Meaning.{Meaning}
use Rattle.p8_fold.specs.declared.meanings.Meaning.TheVariants.{Other}
use Rattle.p8_fold.specs.Meanings.{Setting}
use Rattle.p8_constants.specs.declared.names.Defined.{Defined}
use Rattle.p8_constants.specs.Names.{spelled}
use Rattle.p8_constants.specs.Standing.{all_defined_of}
use Rattle.p8_names.specs.Settings.{is_one_of}
use Rattle.p8_names.specs.Changes.{IsPut, HasNames}

-- nothing else changes
pub record KeepsRest (s t : Setting) : Type 0 where
  pub constants : (owner n : List ℕ) → t.constant owner n ≡ s.constant owner n
  pub here : t.here ≡ s.here

pub keeps_begin : (s : Setting) → KeepsRest s s
keeps_begin s = record { constants = λ owner n. refl; here = refl }

pub keeps_put : {r s t : Setting} {o : Option (List ℕ)} {m : Option Meaning} → KeepsRest r s → IsPut s t o m → KeepsRest r t
keeps_put h p = record { constants = λ owner n. p.constants owner n ∙ h.constants owner n; here = p.here ∙ h.here }

-- what is hidden in the end
abbrev pub hidden : Setting → List (List ℕ) → List ℕ → Option Meaning
hidden s names n = if is_one_of names n then Some Other else s.name n

hidden_by : (b c : Bool) (m : Option Meaning) → (if b || c then Some Other else m) ≡ (if c then Some Other else (if b then Some Other else m))
hidden_by true true m = refl
hidden_by true false m = refl
hidden_by false true m = refl
hidden_by false false m = refl

next_names : (ds : List Defined) (i : ℕ) (d : Defined) → i < length ds → d ≡ get_or ds i d → spelled (all_defined_of (drop i ds)) ≡ d.name.now ∷ spelled (all_defined_of (drop (i + 1) ds))
next_names ds i d l e = ap (λ ys. spelled (all_defined_of ys)) (drop_more ds i d l ∙ ap (λ y. y ∷ drop (i + 1) ds) (sym e))

pub hide_more : (whole : List ℕ → Option Meaning) (s t : Setting) (ds : List Defined) (i : ℕ) (d : Defined) → i < length ds → d ≡ get_or ds i d → IsPut s t (Some d.name.now) (Some Other) → ((n : List ℕ) → whole n ≡ hidden s (spelled (all_defined_of (drop i ds))) n) → (n : List ℕ) → whole n ≡ hidden t (spelled (all_defined_of (drop (i + 1) ds))) n
hide_more whole s t ds i d l e put was n =
    let rest = is_one_of (spelled (all_defined_of (drop (i + 1) ds))) n in
    was n ∙ ap (λ names. hidden s names n) (next_names ds i d l e) ∙ hidden_by (bytes_eq n d.name.now) rest (s.name n)
    ∙ ap (λ m. if rest then Some Other else m) (sym (put.names n))

pub hide_end : (whole : List ℕ → Option Meaning) (s t : Setting) (ds : List Defined) (i : ℕ) → length ds ≤ i → KeepsRest s t → ((n : List ℕ) → whole n ≡ hidden t (spelled (all_defined_of (drop i ds))) n) → HasNames s t whole
hide_end whole s t ds i l k was = record {
  names = λ n. sym (was n ∙ ap (λ ys. hidden t (spelled (all_defined_of ys)) n) (drop_all i ds l));
  constants = k.constants;
  here = k.here;
}

-- each name means what it should, or is among those left
abbrev pub Shown : (List ℕ → Option Meaning) → Setting → List (List ℕ) → Type 0
Shown meant s names = (n : List ℕ) → (s.name n ≡ meant n) ⊎ IsTrue (is_one_of names n)

or_false : (b c : Bool) → IsTrue (b || c) → b ≡ false → IsTrue c
or_false true c t e = absurd cc
or_false false c t e = t

pub show_more : (meant : List ℕ → Option Meaning) (s t : Setting) (ds : List Defined) (i : ℕ) (d : Defined) → i < length ds → d ≡ get_or ds i d → IsPut s t (Some d.name.now) (meant d.name.now) → Shown meant s (spelled (all_defined_of (drop i ds))) → Shown meant t (spelled (all_defined_of (drop (i + 1) ds)))
show_more meant s t ds i d l e put was n =
    elim (cases_Bool (bytes_eq n d.name.now)) [
      | inl same ↦ inl (put.names n ∙ ap (λ b. if b then meant d.name.now else s.name n) same ∙ ap meant (sym ((bytes_eq-Decides n d.name.now).0 same)))
      | inr apart ↦ elim (was n) [
        | inl is ↦ inl (put.names n ∙ ap (λ b. if b then meant d.name.now else s.name n) apart ∙ is)
        | inr left ↦ inr (or_false (bytes_eq n d.name.now) (is_one_of (spelled (all_defined_of (drop (i + 1) ds))) n) (subst (λ names. IsTrue (is_one_of names n)) (next_names ds i d l e) left) apart)
      ]
    ]

pub show_end : (meant : List ℕ → Option Meaning) (s t : Setting) (ds : List Defined) (i : ℕ) → length ds ≤ i → KeepsRest s t → Shown meant t (spelled (all_defined_of (drop i ds))) → HasNames s t meant
show_end meant s t ds i l k was = record {
  names = λ n. elim (was n) [ inl is ↦ is | inr left ↦ absurd (nothing_left n (subst (λ ys. IsTrue (is_one_of (spelled (all_defined_of ys)) n)) (drop_all i ds l) left)) ];
  constants = k.constants;
  here = k.here;
}
  where
    nothing_left : (n : List ℕ) → IsTrue false → ⊥
    nothing_left n e = cc
