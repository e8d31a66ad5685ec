-- Numbers of files, and numbers put one after the other.
use Rattle.std.proofs.Common.{◌≡◌, ℕ, ◌+◌, ◌<◌, Bool, true, false, if◌then◌else◌, List, [], ◌∷◌, ◌++◌, length, map, drop, get_or, replicate, ap, sym, ◌∙◌, arith, append_assoc}
use Rattle.std.specs.Str.{bytes_eq}
use Rattle.std.proofs.lemmas.Bool.{false_from_ne_true}
use Rattle.std.proofs.lemmas.List.{replicate_more}
use Rattle.std.proofs.lemmas.Slice.Eq.{bytes_eq-Decides}
use Rattle.p8_tree.specs.declared.projects.ProjectFile.{ProjectFile}
use Rattle.p8_tree.specs.Views.{named_source_of}
use Rattle.p8_constants.proofs.Listed.{rest_is}
use Rattle.p8_build.specs.Parts.{number_of}

-- ---- the number of a file

left : (fs : List ProjectFile) (i : ℕ) (x : ProjectFile) (name : List ℕ) (all : ℕ) → i < length fs → x ≡ get_or fs i x → i + number_of (map named_source_of (drop i fs)) name ≡ all → i + (if bytes_eq name x.name then 0 else 1 + number_of (map named_source_of (drop (i + 1) fs)) name) ≡ all
left fs i x name all l e h = ap (λ ys. i + number_of (map named_source_of ys) name) (sym (rest_is fs i x l e)) ∙ h

pub number_here : (fs : List ProjectFile) (i : ℕ) (x : ProjectFile) (name : List ℕ) (all : ℕ) → i < length fs → x ≡ get_or fs i x → i + number_of (map named_source_of (drop i fs)) name ≡ all → x.name ≡ name → i ≡ all
number_here fs i x name all l e h same =
    let there : bytes_eq name x.name ≡ true = (bytes_eq-Decides name x.name).1 (sym same) in
    let k : i + 0 ≡ all = ap (λ b. i + (if b then 0 else 1 + number_of (map named_source_of (drop (i + 1) fs)) name)) (sym there) ∙ left fs i x name all l e h in
    omega arith

pub number_next : (fs : List ProjectFile) (i : ℕ) (x : ProjectFile) (name : List ℕ) (all : ℕ) → i < length fs → x ≡ get_or fs i x → i + number_of (map named_source_of (drop i fs)) name ≡ all → ¬ (x.name ≡ name) → i + 1 + number_of (map named_source_of (drop (i + 1) fs)) name ≡ all
number_next fs i x name all l e h apart =
    let there : bytes_eq name x.name ≡ false = false_from_ne_true _ (λ same. apart (sym ((bytes_eq-Decides name x.name).0 same))) in
    let k : i + (1 + number_of (map named_source_of (drop (i + 1) fs)) name) ≡ all = ap (λ b. i + (if b then 0 else 1 + number_of (map named_source_of (drop (i + 1) fs)) name)) (sym there) ∙ left fs i x name all l e h in
    omega arith

pub true_not_false : {A : Type 0} {b : Bool} → b ≡ true → b ≡ false → A
true_not_false p q = absurd cc

-- ---- numbers put one after the other

pub put_more : (first now next : List ℕ) (n x : ℕ) → now ≡ first ++ replicate n x → next ≡ now ++ x ∷ [] → next ≡ first ++ replicate (n + 1) x
put_more first now next n x h e = e ∙ ap (λ ys. ys ++ x ∷ []) h ∙ append_assoc first (replicate n x) (x ∷ []) ∙ ap (λ ys. first ++ ys) (replicate_more n x)
