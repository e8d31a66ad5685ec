-- The search is over: what its numbers say. And before it begins, nothing is found.
use Rattle.std.proofs.Common.{◌≡◌, ◌≢◌, ◌↔◌, inl, inr, ℕ, ◌<◌, ◌≤◌, List, [], length, map, replicate, get_or, refl, sym, ap, ◌∙◌, arith}
use Rattle.std.proofs.lemmas.Bool.{cases_lt}
use Rattle.std.proofs.lemmas.List.{get_or_past, get_or-replicate, length-replicate}
use Rattle.std.proofs.Math.ListN.{get_or-map, length-map}
use Rattle.p8_constants.specs.declared.search.NodeState.TheVariants.{New, Done}
use Rattle.p8_constants.specs.Graphs.{targets_of, IsEdge, Reaches, itself, along}
use Rattle.p8_constants.specs.Searches.{mark, State, IsState, number_of}
use Rattle.p8_constants.proofs.Totals.{mark_cases, all_new}

pub edge_within : (g : List (List ℕ)) (a b : ℕ) → IsEdge g a b → a < length g
edge_within g a b e = elim (cases_lt a (length g)) [
  | inl h ↦ h
  | inr past ↦ let none : targets_of g a ≡ [] = get_or_past g a [] past in absurd (omega (arith, e.target.1, ap length none))
]

pub falls_along : (g : List (List ℕ)) (f : ℕ → ℕ) → ((a b : ℕ) → IsEdge g a b → f b ≤ f a) → {a b : ℕ} → Reaches g a b → f b ≤ f a
falls_along g f falls itself = omega arith
falls_along g f falls {a = a} (along {b = b} e more) = omega (arith, falls a b e, falls_along g f falls more)

module _ (g : List (List ℕ)) (s : State) (k : IsState g s) (rest : s.boundaries ≡ []) (found : (a : ℕ) → a < length g → mark s.marks a ≢ New) where
  number : ℕ → ℕ
  number a = number_of (mark s.marks a)

  done : (a : ℕ) → a < length g → mark s.marks a ≡ Done (number_of (mark s.marks a))
  done a h = elim (mark_cases (mark s.marks a)) [
    | inl new ↦ absurd (found a h new)
    | inr (inl (p, open_)) ↦ absurd (let some : 0 < length s.boundaries = k.bounded (omega (arith, (k.stands a p open_).0)) in omega (arith, ap length rest))
    | inr (inr (n, is)) ↦ is ∙ ap Done (sym (ap number_of is))
  ]

  falls : (a b : ℕ) → IsEdge g a b → number_of (mark s.marks b) ≤ number_of (mark s.marks a)
  falls a b e =
      let (m, at, le) = k.falls a b (number_of (mark s.marks a)) (done a (edge_within g a b e)) e in
      omega (arith, ap number_of at)

  both : (a b : ℕ) → a < length g → b < length g → (number_of (mark s.marks a) ≡ number_of (mark s.marks b)) ↔ (Reaches g a b × Reaches g b a)
  both a b la lb = (
    λ same. let at = done b lb ∙ ap Done (sym same) in (k.same a b (number_of (mark s.marks a)) (done a la) at, k.same b a (number_of (mark s.marks a)) at (done a la)),
    λ (p, q). let f : ℕ → ℕ = λ x. number_of (mark s.marks x) in omega (arith, falls_along g f falls p, falls_along g f falls q),
  )

  abbrev numbers : List ℕ
  numbers = map number_of s.marks

  at : (a : ℕ) → get_or numbers a 0 ≡ number_of (mark s.marks a)
  at a = get_or-map number_of s.marks a New

  pub numbers_size : length (map number_of s.marks) ≡ length g
  numbers_size = length-map s.marks number_of ∙ k.size

  pub numbers_fall : (a b : ℕ) → IsEdge g a b → get_or (map number_of s.marks) b 0 ≤ get_or (map number_of s.marks) a 0
  numbers_fall a b e = omega (arith, at a, at b, falls a b e)

  pub numbers_same : (a b : ℕ) → a < length g → b < length g → (get_or (map number_of s.marks) a 0 ≡ get_or (map number_of s.marks) b 0) ↔ (Reaches g a b × Reaches g b a)
  numbers_same a b la lb = let (to, back) = both a b la lb in (λ e. to (sym (at a) ∙ (e ∙ at b)), λ r. at a ∙ (back r ∙ sym (at b)))

pub nothing_found : (g : List (List ℕ)) (n : ℕ) → n ≡ length g → IsState g (record { marks = replicate n New; nodes = []; targets = []; boundaries = []; count = 0 })
nothing_found g n e =
    let new : (a : ℕ) → mark (replicate n New) a ≡ New = λ a. elim (cases_lt a n) [ inl low ↦ get_or-replicate n a New New low | inr past ↦ get_or_past (replicate n New) a New (omega (arith, length-replicate n New)) ] in
    record {
      size = length-replicate n New ∙ e;
      placed = λ p h. absurd (omega arith);
      stands = λ a p is. absurd (let at = new a in cc);
      nodes_are = λ p h. absurd (omega arith);
      targets_are = λ x h. absurd (omega arith);
      bounded = λ h. absurd (omega arith);
      first = refl;
      within = λ n h. absurd (omega arith);
      rising = λ n l less h. absurd (omega arith);
      chain = λ i j less h. absurd (omega arith);
      back = λ n j h low high none. absurd (omega arith);
      pending = λ n x h low high. absurd (omega arith);
      seen = λ n j b h low high e. absurd (omega arith);
      falls = λ a b n is e. absurd (let at = new a in cc);
      numbered = λ a n is. absurd (let at = new a in cc);
      same = λ a b n is is'. absurd (let at = new a in cc);
      room = omega (arith, all_new g n);
    }
