-- Paths in a graph, and elements of lists with one more at the end.
use Rattle.std.proofs.Common.{◌≡◌, ◌⊎◌, inl, inr, ℕ, ◌<◌, List, [], ◌∷◌, ◌++◌, length, get_or, sym, subst, arith}
use Rattle.std.proofs.lemmas.Bool.{cases_lt}
use Rattle.std.proofs.lemmas.List.Elements.{Contains-get_or}
use Rattle.std.proofs.lemmas.List.{length_push, get_or_append_left, get_or_push}
use Rattle.p8_constants.specs.Graphs.{targets_of, IsEdge, Reaches, itself, along}

pub joined : {g : List (List ℕ)} {a b c : ℕ} → Reaches g a b → Reaches g b c → Reaches g a c
joined itself q = q
joined (along e p) q = along e (joined p q)

pub edge : {g : List (List ℕ)} {a b : ℕ} → IsEdge g a b → Reaches g a b
edge e = along e itself

pub between : {g : List (List ℕ)} {a b x y : ℕ} → Reaches g a b → a ≡ x → b ≡ y → Reaches g x y
between {g = g} {b = b} {x = x} p e f = subst (λ z. Reaches g x z) f (subst (λ z. Reaches g z b) e p)

-- an element of a list that is one longer
pub pushed : {X : Type 0} (xs : List X) (x : X) (i : ℕ) → i < length (xs ++ x ∷ []) → (i < length xs) ⊎ (i ≡ length xs)
pushed xs x i lt = elim (cases_lt i (length xs)) [ inl h ↦ inl h | inr h ↦ inr (omega (arith, length_push xs x)) ]

pub at_left : {X : Type 0} (xs ys : List X) (d : X) (i : ℕ) → i < length xs → get_or (xs ++ ys) i d ≡ get_or xs i d
at_left xs ys d i lt = get_or_append_left xs ys d i lt

pub at_last : {X : Type 0} (xs : List X) (x d : X) (i : ℕ) → i ≡ length xs → get_or (xs ++ x ∷ []) i d ≡ x
at_last xs x d i e = get_or_push xs x d i (sym e)

-- a node's targets are targets of edges
pub edge_to : (g : List (List ℕ)) (a i : ℕ) → i < length (targets_of g a) → IsEdge g a (get_or (targets_of g a) i 0)
edge_to g a i lt = record { target = Contains-get_or (targets_of g a) i 0 lt }
