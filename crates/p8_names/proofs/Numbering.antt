-- The numbers of files by their names.
use Rattle.std.proofs.Common.{◌≡◌, ◌⊎◌, inl, inr, ℕ, ◌+◌, ◌<◌, Bool, true, false, List, Option, Some, None, IsSome, length, map, get_or, option_map, slice_get, refl, sym, ap, ◌∙◌, subst, arith}
use Rattle.std.specs.Str.{bytes_eq}
use Rattle.std.proofs.lemmas.Bool.{cases_Bool, cases_lt}
use Rattle.std.proofs.lemmas.List.{length-map}
use Rattle.std.proofs.lemmas.Option.{slice_get_within, slice_get_read, slice_get-map}
use Rattle.std.proofs.lemmas.Slice.Eq.{bytes_eq-Decides}
use Rattle.p8_tree.specs.Projects.{NamedSource}
use Rattle.p8_tree.specs.Views.{named_source_of}
use Rattle.p8_tree.specs.declared.projects.ProjectFile.{ProjectFile}
use Rattle.p8_names.specs.Mentions.{IsNamed}
use Rattle.p8_names.specs.Finding.{HasNumbers}

refuted : {b : Bool} {P : Type 0} → (P → b ≡ true) → b ≡ false → ¬ P
refuted to is p = let so = to p in absurd cc

same_or_apart : (m n : List ℕ) → (m ≡ n) ⊎ (¬ (m ≡ n))
same_or_apart m n = elim (cases_Bool (bytes_eq m n)) [
  | inl same ↦ inl ((bytes_eq-Decides m n).0 same)
  | inr apart ↦ inr (refuted (bytes_eq-Decides m n).1 apart)
]

pub some_same : {X : Type 0} {x y : X} → Some x ≡ Some y → x ≡ y
some_same e = cc

pub one_file : (files : List NamedSource) (i : ℕ) (f g : NamedSource) → slice_get files i ≡ Some f → slice_get files i ≡ Some g → f ≡ g
one_file files i f g a b = some_same (sym a ∙ b)

pub one_name : (files : List NamedSource) (i j : ℕ) (n m : List ℕ) → i ≡ j → IsNamed files i n → IsNamed files j m → n ≡ m
one_name files i j n m e a b = sym a.named ∙ (ap (λ f. f.name) (one_file files j a.file b.file (sym (ap (slice_get files) e) ∙ a.stands) b.stands) ∙ b.named)

pub named_within : (files : List NamedSource) (i : ℕ) (n : List ℕ) → IsNamed files i n → i < length files
named_within files i n h = slice_get_within files i h.file h.stands

-- with a file more
pub entered : (files : List NamedSource) (k : ℕ) (name : List ℕ) (old new : List ℕ → Option ℕ) → IsNamed files k name → HasNumbers files k old → new name ≡ Some k → ((n : List ℕ) → ¬ (n ≡ name) → new n ≡ old n) → HasNumbers files (k + 1) new
entered files k name old new here h at others = record {
  sound = λ n j is. elim (same_or_apart n name) [
    | inl e ↦
        let number : k ≡ j = some_same (sym at ∙ (sym (ap new e) ∙ is)) in
        subst (λ i. IsNamed files i n) number (subst (IsNamed files k) (sym e) here)
    | inr differs ↦ h.sound n j (sym (others n differs) ∙ is)
  ];
  complete = λ n j lt there. elim (same_or_apart n name) [
    | inl e ↦ subst IsSome (sym (ap new e ∙ at)) refl
    | inr differs ↦ elim (cases_lt j k) [
      | inl low ↦ subst IsSome (sym (others n differs)) (h.complete n j low there)
      | inr last ↦ absurd (differs (let same : j ≡ k = omega arith in one_name files j k n name same there here))
    ]
  ];
}

pub given : {X : Type 0} (o : Option X) → IsSome o → (x : X) × (o ≡ Some x)
given None h = absurd cc
given (Some x) h = (x, refl)

-- ---- the code's files

pub item_stands : (raw all : List ProjectFile) (i : ℕ) (r : ProjectFile) → all ≡ raw → i < length all → r ≡ get_or all i r → slice_get (map named_source_of raw) i ≡ Some (named_source_of r)
item_stands raw all i r same lt is =
    slice_get-map named_source_of raw i ∙ ap (option_map named_source_of) (ap (λ xs. slice_get xs i) (sym same) ∙ slice_get_read all (length all) i r refl lt is)

pub item_named : (raw all : List ProjectFile) (i : ℕ) (r : ProjectFile) → all ≡ raw → i < length all → r ≡ get_or all i r → IsNamed (map named_source_of raw) i r.name
item_named raw all i r same lt is = record {
  file = named_source_of r;
  stands = item_stands raw all i r same lt is;
  named = refl;
}

pub all_numbered : (raw all : List ProjectFile) (k : ℕ) (at : List ℕ → Option ℕ) → all ≡ raw → ¬ (k < length all) → HasNumbers (map named_source_of raw) k at → HasNumbers (map named_source_of raw) (length (map named_source_of raw)) at
all_numbered raw all k at same past h = record {
  sound = h.sound;
  complete = λ n j lt there. h.complete n j (omega (arith, ap length same, past, length-map raw named_source_of)) there;
}
