-- Sums over the nodes that aren't found yet.
use Rattle.std.proofs.Common.{◌≡◌, ◌⊎◌, inl, inr, ℕ, zero, suc, ◌+◌, ◌<◌, ◌≤◌, List, [], ◌∷◌, length, set, replicate, refl, ap, arith}
use Rattle.p8_constants.specs.declared.search.NodeState.{NodeState}
use Rattle.p8_constants.specs.declared.search.NodeState.TheVariants.{New, Open, Done}
use Rattle.p8_constants.specs.Graphs.{targets_of}
use Rattle.p8_constants.specs.Searches.{mark, total_of_new}

-- a node that is found no longer counts
pub found : (f : List ℕ → ℕ) (g : List (List ℕ)) (marks : List NodeState) (a p : ℕ) → a < length g → a < length marks → mark marks a ≡ New → total_of_new f g (set marks a (Open p)) + f (targets_of g a) ≡ total_of_new f g marks
found f [] marks a p l k new = absurd (omega arith)
found f (ts ∷ g) [] a p l k new = absurd (omega arith)
found f (ts ∷ g) (New ∷ marks) zero p l k new = omega arith
found f (ts ∷ g) (Open q ∷ marks) zero p l k new = absurd cc
found f (ts ∷ g) (Done n ∷ marks) zero p l k new = absurd cc
found f (ts ∷ g) (New ∷ marks) (suc a) p l k new = let rest : total_of_new f g (set marks a (Open p)) + f (targets_of g a) ≡ total_of_new f g marks = found f g marks a p (omega arith) (omega arith) new in omega arith
found f (ts ∷ g) (Open q ∷ marks) (suc a) p l k new = found f g marks a p (omega arith) (omega arith) new
found f (ts ∷ g) (Done n ∷ marks) (suc a) p l k new = found f g marks a p (omega arith) (omega arith) new

-- the sum is the same where the same nodes are new
pub same_total : (f : List ℕ → ℕ) (g : List (List ℕ)) (xs ys : List NodeState) → length xs ≡ length ys → ((a : ℕ) → mark xs a ≡ New → mark ys a ≡ New) → ((a : ℕ) → mark ys a ≡ New → mark xs a ≡ New) → total_of_new f g ys ≡ total_of_new f g xs
same_total f [] xs ys e to back = refl
same_total f (ts ∷ g) [] [] e to back = refl
same_total f (ts ∷ g) [] (y ∷ ys) e to back = absurd (omega arith)
same_total f (ts ∷ g) (x ∷ xs) [] e to back = absurd (omega arith)
same_total f (ts ∷ g) (x ∷ xs) (y ∷ ys) e to back =
    let rest : total_of_new f g ys ≡ total_of_new f g xs = same_total f g xs ys (omega arith) (λ a h. to (suc a) h) (λ a h. back (suc a) h) in
    both x y (λ h. to 0 h) (λ h. back 0 h) rest
  where
    both : (x y : NodeState) → (x ≡ New → y ≡ New) → (y ≡ New → x ≡ New) → total_of_new f g ys ≡ total_of_new f g xs → total_of_new f (ts ∷ g) (y ∷ ys) ≡ total_of_new f (ts ∷ g) (x ∷ xs)
    both New New to back rest = ap (λ n. f ts + n) rest
    both New (Open p) to back rest = absurd (let h : Open p ≡ New = to refl in cc)
    both New (Done n) to back rest = absurd (let h : Done n ≡ New = to refl in cc)
    both (Open p) New to back rest = absurd (let h : Open p ≡ New = back refl in cc)
    both (Open p) (Open q) to back rest = rest
    both (Open p) (Done n) to back rest = rest
    both (Done n) New to back rest = absurd (let h : Done n ≡ New = back refl in cc)
    both (Done n) (Open q) to back rest = rest
    both (Done n) (Done m) to back rest = rest

pub mark_cases : (m : NodeState) → (m ≡ New) ⊎ (((p : ℕ) × (m ≡ Open p)) ⊎ ((n : ℕ) × (m ≡ Done n)))
mark_cases New = inl refl
mark_cases (Open p) = inr (inl (p, refl))
mark_cases (Done n) = inr (inr (n, refl))

pub all_new : (g : List (List ℕ)) (n : ℕ) → total_of_new (λ ts. 1) g (replicate n New) ≤ length g
all_new [] n = omega arith
all_new (ts ∷ g) zero = omega arith
all_new (ts ∷ g) (suc n) = omega (arith, all_new g n)
