-- The objects of files with other codes.
use Rattle.std.proofs.Common.{◌≡◌, ℕ, ◌+◌, ◌<◌, List, [], ◌∷◌, ◌++◌, length, take, get_or, refl, ap, ap₂, sym, ◌∙◌, arith}
use Rattle.std.proofs.lemmas.List.{take_more, length-take-le}
use Rattle.p8_tree.specs.Projects.{NamedSource}
use Rattle.p8_image.specs.declared.parts.ObjectPart.{ObjectPart}
use Rattle.p8_stmt.specs.declared.code.MethodCode.{MethodCode}
use Rattle.p8_build.specs.declared.accepting.AcceptedFile.{AcceptedFile}
use Rattle.p8_build.specs.Phases.{object_in}
use Rattle.p8_opt.specs.Steps.{objects_in}

objects-push : (files : List NamedSource) (fs : List AcceptedFile) (codes : List (List MethodCode)) (f : AcceptedFile) (own : List MethodCode) → length fs ≡ length codes
    → objects_in files (fs ++ f ∷ []) (codes ++ own ∷ []) ≡ objects_in files fs codes ++ object_in files f own ∷ []
objects-push files [] [] f own long = refl
objects-push files [] (c ∷ codes) f own long = absurd (omega (arith, long))
objects-push files (g ∷ fs) [] f own long = absurd (omega (arith, long))
objects-push files (g ∷ fs) (c ∷ codes) f own long = ap (λ (os : List ObjectPart). object_in files g c ∷ os) (objects-push files fs codes f own (omega (arith, long)))

-- one file more of them all
pub one-object-more : (files : List NamedSource) (fs : List AcceptedFile) (codes : List (List MethodCode)) (i : ℕ) (f : AcceptedFile) (own : List MethodCode) (objects more : List ObjectPart) (o : ObjectPart)
    → i < length fs → length codes ≡ length fs → f ≡ get_or fs i f → own ≡ get_or codes i own → objects ≡ objects_in files (take i fs) (take i codes) → o ≡ object_in files f own → more ≡ objects ++ o ∷ []
    → more ≡ objects_in files (take (i + 1) fs) (take (i + 1) codes)
one-object-more files fs codes i f own objects more o inside beside at_f at_own before here is =
    let within : i < length codes = omega (arith, inside, beside) in
    let long : length (take i fs) ≡ length (take i codes) = length-take-le i fs (omega (arith, inside)) ∙ sym (length-take-le i codes (omega (arith, within))) in
    is ∙ ap (λ (os : List ObjectPart). os ++ o ∷ []) before
    ∙ ap (λ (p : ObjectPart). objects_in files (take i fs) (take i codes) ++ p ∷ []) (here ∙ (λ k. object_in files (at_f k) (at_own k)))
    ∙ sym (objects-push files (take i fs) (take i codes) (get_or fs i f) (get_or codes i own) long)
    ∙ ap₂ (objects_in files) (sym (take_more fs i f inside)) (sym (take_more codes i own within))
