-- Names with the same bytes are the same, and each method has a number.
use Rattle.std.proofs.Common.{◌≡◌, ℕ, suc, ◌+◌, Bool, true, false, if◌then◌else◌, List, [], ◌∷◌, ◌++◌, length, refl, ◌∙◌, arith, length-append}
use Rattle.std.specs.Str.{bytes_eq}
use Rattle.std.proofs.lemmas.Slice.Eq.{bytes_eq-Decides}
use Rattle.p8_tree.specs.Sources.{MethodTree}
use Rattle.p8_constants.specs.FileItems.{Item, constant, variable, object, method, line}
use Rattle.p8_names.specs.Kinds.{methods, publics, privates, numbered}

pub same-bytes : (xs ys : List ℕ) → bytes_eq xs ys ≡ true → xs ≡ ys
same-bytes xs ys is = (bytes_eq-Decides xs ys).0 is

one-more : (b : Bool) (m : MethodTree) (ps qs : List MethodTree) (n : ℕ) → length ps + length qs ≡ n → length ((if b then m ∷ [] else []) ++ ps) + length ((if b then [] else m ∷ []) ++ qs) ≡ suc n
one-more true m ps qs n e = omega (arith, e)
one-more false m ps qs n e = omega (arith, e)

split : (xs : List Item) → length (publics xs) + length (privates xs) ≡ length (methods xs)
split [] = refl
split (constant x ∷ xs) = split xs
split (variable x ∷ xs) = split xs
split (object x ∷ xs) = split xs
split (method m ∷ xs) = one-more m.public m (publics xs) (privates xs) (length (methods xs)) (split xs)
split (line x ∷ xs) = split xs

pub count-is : (xs : List Item) → length (numbered xs) ≡ length (methods xs)
count-is xs = length-append (publics xs) (privates xs) ∙ split xs
