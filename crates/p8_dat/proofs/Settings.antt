-- Settings as equations: the table of names after a change.
use Rattle.std.proofs.Common.{◌≡◌, ℕ, List, Option, Some, None, inl, inr, sym, ap, ◌∙◌}
use Rattle.std.specs.Prelude.{if◌then◌else◌}
use Rattle.std.specs.Str.{bytes_eq}
use Rattle.std.proofs.lemmas.Bool.{cases_Bool, false≢true}
use Rattle.std.proofs.lemmas.Slice.Eq.{bytes_eq-Decides}
use Rattle.p8_fold.specs.declared.meanings.Here.{Here}
use Rattle.p8_fold.specs.declared.meanings.Meaning.{Meaning}
use Rattle.p8_fold.specs.Meanings.{Setting, entry}
use Rattle.p8_dat.specs.Names.{entered}

-- settings that give each entry the same meaning
pub same_settings : (s t : Setting) → ((n : List ℕ) → t.name n ≡ s.name n) → ((o n : List ℕ) → t.constant o n ≡ s.constant o n) → t.here ≡ s.here → t ≡ s
same_settings s t names constants here =
    λ i. record { name = λ n. names n i; constant = λ o n. constants o n i; here = here i }

-- another place
pub stands_elsewhere : (s t : Setting) (h : Here) → t.here ≡ h → ((o : Option (List ℕ)) (n : List ℕ) → entry t o n ≡ entry s o n) → t ≡ record s { here = h }
stands_elsewhere s t h here entries = same_settings (record s { here = h }) t (entries None) (λ o. entries (Some o)) here

named_by : (s t : Setting) (name : List ℕ) (m : Meaning) → t.name name ≡ Some m → ((n : List ℕ) → ¬ (n ≡ name) → t.name n ≡ s.name n) → (n : List ℕ) → t.name n ≡ (if bytes_eq n name then Some m else s.name n)
named_by s t name m here others n =
    elim (cases_Bool (bytes_eq n name)) [
      | inl alike ↦
          let same : n ≡ name = (bytes_eq-Decides n name).0 alike in
          ap (λ x. t.name x) same ∙ here ∙ ap (λ b. if b then Some m else s.name n) (sym alike)
      | inr differs ↦
          others n (λ same. false≢true (sym differs ∙ (bytes_eq-Decides n name).1 same)) ∙ ap (λ b. if b then Some m else s.name n) (sym differs)
    ]

-- one entry more
pub name_entered : (s t : Setting) (name : List ℕ) (m : Meaning) → entry t None name ≡ Some m → ((o : Option (List ℕ)) (n : List ℕ) → ¬ ((o ≡ None) × (n ≡ name)) → entry t o n ≡ entry s o n) → t.here ≡ s.here → t ≡ entered name m s
name_entered s t name m at others here =
    same_settings (entered name m s) t (named_by s t name m at (λ n ne. others None n (λ h. ne h.1))) (λ o n. others (Some o) n (λ h. absurd (none_is_some h.0))) here
  where
    none_is_some : {o : List ℕ} → Some o ≡ None → ⊥
    none_is_some e = cc
