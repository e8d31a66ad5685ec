-- The path of an object's first instance, one name after the other.
use Rattle.std.proofs.Common.{◌≡◌, ◌∙◌, ◌==◌, ap, sym, arith, ℕ, suc, ◌-◌, ◌≤◌, if◌then◌else◌, List, [], ◌++◌}
use Rattle.std.proofs.lemmas.Bool.Decides.{nat_tests}
use Rattle.std.proofs.lemmas.List.{append-nil}
use Rattle.p8_image.specs.declared.parts.ObjectPart.{ObjectPart}
use Rattle.p8_map.specs.declared.names.FileNames.{FileNames}
use Rattle.p8_legend.specs.ProjectLegends.{first_inside, path_behind, path_of}

-- no deeper, no path
pub no-depth : (files : List FileNames) (objects : List ObjectPart) (depth f : ℕ) (out : List ℕ) → depth ≡ 0 → out ≡ out ++ path_of files objects depth f
unfolding path_of
no-depth files objects depth f out none = sym (append-nil out) ∙ ap (λ (d : ℕ). out ++ path_of files objects d f) (sym none)

one-deeper : (files : List FileNames) (objects : List ObjectPart) (depth f : ℕ) → 1 ≤ depth
    → path_of files objects depth f ≡ (if f == 0 then [] else path_behind (path_of files objects (depth - 1)) (first_inside f 0 files objects))
unfolding path_of
one-deeper files objects depth f some =
    let more : depth ≡ suc (depth - 1) = omega arith in
    ap (λ (d : ℕ). path_of files objects d f) more

of-top : (f : ℕ) (path : List ℕ) → f ≡ 0 → (if f == 0 then [] else path) ≡ []
of-top f path top = grind (arith, nat_tests)

of-other : (f : ℕ) (path : List ℕ) → 1 ≤ f → (if f == 0 then [] else path) ≡ path
of-other f path other = grind (arith, nat_tests)

-- the top object has none
pub top-path : (files : List FileNames) (objects : List ObjectPart) (depth f : ℕ) (out : List ℕ) → 1 ≤ depth → f ≡ 0 → out ≡ out ++ path_of files objects depth f
top-path files objects depth f out some top =
    sym (append-nil out) ∙ ap (λ (path : List ℕ). out ++ path) (sym (one-deeper files objects depth f some ∙ of-top f (path_behind (path_of files objects (depth - 1)) (first_inside f 0 files objects)) top))

-- another one's stands behind the first object that has it inside
pub behind-path : (files : List FileNames) (objects : List ObjectPart) (depth f : ℕ) → 1 ≤ depth → 1 ≤ f
    → path_behind (path_of files objects (depth - 1)) (first_inside f 0 files objects) ≡ path_of files objects depth f
behind-path files objects depth f some other =
    sym (one-deeper files objects depth f some ∙ of-other f (path_behind (path_of files objects (depth - 1)) (first_inside f 0 files objects)) other)
