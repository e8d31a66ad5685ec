-- The methods of an object: one more method.
use Rattle.std.proofs.Common.{◌≡◌, ℕ, suc, ◌+◌, ◌<◌, List, [], ◌∷◌, ◌++◌, length, take, get_or, Option, Some, None, refl, sym, ap, ◌∙◌, arith}
use Rattle.std.specs.Prelude.{min}
use Rattle.std.proofs.lemmas.List.{take_more, length-take-le}
use Rattle.p8_kinds.specs.declared.children.ChildMethod.{ChildMethod}
use Rattle.p8_kinds.specs.declared.name_kinds.NameKind.{NameKind}
use Rattle.p8_kinds.specs.Kinds.{or_else}
use Rattle.p8_kinds.specs.Publics.{named_method, method_among}

none_further : (o : Option NameKind) → o ≡ or_else o None
none_further None = refl
none_further (Some k) = refl

or_else_assoc : (a b c : Option NameKind) → or_else a (or_else b c) ≡ or_else (or_else a b) c
or_else_assoc None b c = refl
or_else_assoc (Some k) b c = refl

methods_push : (k : ℕ) (ms : List ChildMethod) (m : ChildMethod) (n : List ℕ) → method_among k (ms ++ m ∷ []) n ≡ or_else (method_among k ms n) (named_method (min (k + length ms) 255) m n)
methods_push k [] m n = sym (none_further (named_method (min k 255) m n)) ∙ ap (λ j. named_method (min j 255) m n) (omega arith)
methods_push k (x ∷ ms) m n =
    ap (or_else (named_method (min k 255) x n)) (methods_push (suc k) ms m n ∙ ap (λ j. or_else (method_among (suc k) ms n) (named_method (min j 255) m n)) (omega arith))
    ∙ or_else_assoc (named_method (min k 255) x n) (method_among (suc k) ms n) (named_method (min (k + length (x ∷ ms)) 255) m n)

-- the methods up to a place, and the one there
pub methods_next : (ms : List ChildMethod) (i : ℕ) (d : ChildMethod) (n : List ℕ) → i < length ms → or_else (method_among 1 (take i ms) n) (named_method (min (i + 1) 255) (get_or ms i d) n) ≡ method_among 1 (take (i + 1) ms) n
methods_next ms i d n lt =
    let long : length (take i ms) ≡ i = length-take-le i ms (omega (arith, lt)) in
    sym (ap (λ ms. method_among 1 ms n) (take_more ms i d lt) ∙ methods_push 1 (take i ms) (get_or ms i d) n
    ∙ ap (λ j. or_else (method_among 1 (take i ms) n) (named_method (min j 255) (get_or ms i d) n)) (omega (arith, long)))
