-- The items of OBJ of a file, by its items and by its blocks.
use Rattle.std.proofs.Common.{◌≡◌, List, [], ◌∷◌, ◌++◌, map, refl, ap, ◌∙◌}
use Rattle.std.proofs.lemmas.List.Concat.{flat_map-append}
use Rattle.p8_tree.specs.Sources as trees
use Rattle.p8_tree.specs.Sources.{BlockTree, Child, Con, Var, Obj, Method, Dat, Source}
use Rattle.p8_constants.specs.FileItems.{block_items, items, constant, variable, object, line}
use Rattle.p8_names.specs.Kinds.{object_in, objects}
use Rattle.p8_names.specs.Mentions as seen
use Rattle.p8_objects.specs.Sources.{mentions_in, mentions}

no-constants : (xs : List trees.Constant) → objects (map constant xs) ≡ []
no-constants [] = refl
no-constants (x ∷ xs) = no-constants xs

no-variables : (xs : List trees.Declared) → objects (map variable xs) ≡ []
no-variables [] = refl
no-variables (x ∷ xs) = no-variables xs

no-lines : (xs : List trees.Line) → objects (map line xs) ≡ []
no-lines [] = refl
no-lines (x ∷ xs) = no-lines xs

all-objects : (xs : List Child) → objects (map object xs) ≡ xs
all-objects [] = refl
all-objects (x ∷ xs) = ap (λ ys. x ∷ ys) (all-objects xs)

objects-in : (b : BlockTree) → objects (block_items b) ≡ mentions_in b
objects-in (Con xs) = no-constants xs
objects-in (Var xs) = no-variables xs
objects-in (Obj xs) = all-objects xs
objects-in (Method m) = refl
objects-in (Dat xs) = no-lines xs

pub same-mentions : (s : Source) → seen.mentions s ≡ mentions s
same-mentions [] = refl
same-mentions (b ∷ bs) =
    flat_map-append object_in (block_items b) (items bs)
    ∙ ap (λ xs. xs ++ objects (items bs)) (objects-in b) ∙ ap (λ xs. mentions_in b ++ xs) (same-mentions bs)
