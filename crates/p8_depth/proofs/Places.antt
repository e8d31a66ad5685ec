-- Entries by the places of real code.
use Rattle.std.proofs.Common.{◌≡◌, refl, sym, subst, arith, ℕ, List, [], ◌∷◌, ◌++◌, Option}
use Rattle.std.specs.Prelude.{All, Contains}
use Rattle.std.proofs.lemmas.List.Elements.{All-nil, All-cons, All-head, All-tail, All-contains, Contains-append_left}
use Rattle.p8_tree.specs.Statements.{statement, Statements, no_statements, ◌▹◌}
use Rattle.p8_gen.specs.Names.{Names}
use Rattle.p8_gen.specs.Pieces.{Written, from_place, Piece}
use Rattle.p8_gen.specs.Statements.{Loop, code, body}
use Rattle.p8_gen.proofs.Widths.{Alike}
use Rattle.p8_depth.specs.Entries.{entries, entries_inside}

module _ {X : Type 0} (P : X → Type 0) where
  pub split : (xs ys : List X) → All P (xs ++ ys) → All P xs × All P ys
  split [] ys h = (All-nil P, h)
  split (x ∷ xs) ys h =
      let rest = split xs ys (All-tail P x (xs ++ ys) h) in
      (All-cons P x xs (All-head P x (xs ++ ys) h) rest.0, rest.1)

-- where a piece ends, and how many jumps there are, by another one that is alike
module _ {a c : Piece} (like : Alike a c) (w : Written) where
  pub place-is : (c (from_place w.end w.jumps)).end ≡ (a w).end
  place-is = let ends = like.ends w (from_place w.end w.jumps) refl in omega (arith, ends)

  pub jumps-are : (c (from_place w.end w.jumps)).jumps ≡ (a w).jumps
  jumps-are = sym (like.counts w (from_place w.end w.jumps) refl)

  -- what is told of a place and of how many jumps come before it
  pub from-real : (Q : (place jumps : ℕ) → Type 0) → Q (a w).end (a w).jumps → Q (c (from_place w.end w.jumps)).end (c (from_place w.end w.jumps)).jumps
  from-real Q h = subst (λ p. Q p (c (from_place w.end w.jumps)).jumps) (sym place-is) (subst (λ j. Q (a w).end j) (sym jumps-are) h)

  pub to-real : (Q : (place jumps : ℕ) → Type 0) → Q (c (from_place w.end w.jumps)).end (c (from_place w.end w.jumps)).jumps → Q (a w).end (a w).jumps
  to-real Q h = subst (λ p. Q p (a w).jumps) place-is (subst (λ j. Q (c (from_place w.end w.jumps)).end j) jumps-are h)

-- the begin of a body is an entry
pub begin-is-entry : (n : Names) (k : Option Loop) (b : ℕ) (ss : Statements) (place jumps : ℕ) → Contains (entries n k ss b place jumps) (place, b)
begin-is-entry n k b no_statements place jumps = (0, omega arith, refl)
begin-is-entry n k b (ss ▹ statement q action) place jumps =
    let w = body n k ss (from_place place jumps) in
    let inside : List (ℕ × ℕ) = entries_inside (record n { statement = q }) k action b w.end w.jumps in
    let end : ℕ × ℕ = ((code n k (statement q action) w).end, b) in
    Contains-append_left (entries n k ss b place jumps ++ inside) (end ∷ []) (place, b) (Contains-append_left (entries n k ss b place jumps) inside (place, b) (begin-is-entry n k b ss place jumps))

module _ (P : ℕ × ℕ → Type 0) (n : Names) (k : Option Loop) (b : ℕ) where
  -- what holds of all entries holds of the begin of a body, and of its end
  pub first-entry : (ss : Statements) (place jumps : ℕ) → All P (entries n k ss b place jumps) → P (place, b)
  first-entry ss place jumps all = All-contains P (entries n k ss b place jumps) (place, b) all (begin-is-entry n k b ss place jumps)

  pub last-entry : (ss : Statements) (place jumps : ℕ) → All P (entries n k ss b place jumps) → P ((body n k ss (from_place place jumps)).end, b)
  last-entry no_statements place jumps all = All-head P (place, b) [] all
  last-entry (ss ▹ statement q action) place jumps all =
      let w = body n k ss (from_place place jumps) in
      let inside : List (ℕ × ℕ) = entries_inside (record n { statement = q }) k action b w.end w.jumps in
      let end : ℕ × ℕ = ((code n k (statement q action) w).end, b) in
      All-head P end [] (split P (entries n k ss b place jumps ++ inside) (end ∷ []) all).1
