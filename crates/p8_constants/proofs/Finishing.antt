-- The component on top is finished: its edges are used up.
use Rattle.std.proofs.Common.{◌≡◌, ◌⊎◌, inl, inr, ℕ, ◌+◌, ◌-◌, ◌<◌, ◌≤◌, List, length, take, refl, sym, ap, ◌∙◌, subst, arith}
use Rattle.std.specs.Prelude.{Contains}
use Rattle.std.proofs.lemmas.Bool.{cases_lt, cases_eq}
use Rattle.std.proofs.lemmas.List.{length-take-le, get_or-take, get_or_default, get_or_past}
use Rattle.p8_constants.specs.declared.search.NodeState.{NodeState}
use Rattle.p8_constants.specs.declared.search.NodeState.TheVariants.{New, Open, Done}
use Rattle.p8_constants.specs.declared.search.Boundary.{Boundary}
use Rattle.p8_constants.specs.Graphs.{IsEdge, Reaches}
use Rattle.p8_constants.specs.Searches.{mark, node_at, boundary_at, total_of_new, IsSeen, finished, stacked, ahead, held, IsSearch, State, IsState, work, IsClosed, IsFurther}
use Rattle.p8_constants.proofs.Paths.{joined, between}
use Rattle.p8_constants.proofs.Totals.{same_total, mark_cases}

-- the nodes of a list from a place on
pub record IsPartFrom (nodes : List ℕ) (n : ℕ) (part : List ℕ) : Type 0 where
  pub size : length part + n ≡ length nodes
  pub at : (i : ℕ) → i < length part → node_at part i ≡ node_at nodes (n + i)

module _ (g : List (List ℕ)) (marks : List NodeState) (nodes ts : List ℕ) (bs : List Boundary) (count : ℕ) (k : IsSearch g (λ b. ⊥) marks nodes ts bs count) (some : 0 < length bs) (used : length ts ≤ (boundary_at bs (length bs - 1)).target) (part : List ℕ) (marks' : List NodeState) (is_part : IsPartFrom nodes (boundary_at bs (length bs - 1)).node part) (closing : IsClosed marks part count marks') where
  abbrev top : ℕ
  top = length bs - 1

  abbrev begin : ℕ
  begin = (boundary_at bs top).node

  top_is : top < length bs
  top_is = omega arith

  begins : begin < length nodes
  begins = (k.within top top_is).0

  -- ---- marks

  closed : (q : ℕ) → begin ≤ q → q < length nodes → mark marks' (node_at nodes q) ≡ Done count
  closed q low high =
      let i : q - begin < length part = omega (arith, is_part.size) in
      let same : begin + (q - begin) ≡ q = omega arith in
      ap (mark marks') (ap (node_at nodes) (sym same) ∙ sym (is_part.at (q - begin) i)) ∙ closing.closed (q - begin) i

  -- what is in the component is open, from its begin on
  in_part : (a : ℕ) → Contains part a → (q : ℕ) × (begin ≤ q) × (mark marks a ≡ Open q)
  in_part a (i, lt, is) =
      let at : node_at nodes (begin + i) ≡ a = sym (is_part.at i lt) ∙ (get_or_default part i 0 a lt ∙ is) in
      (begin + i, omega arith, ap (mark marks) (sym at) ∙ k.placed (begin + i) (omega (arith, is_part.size)))

  stays : (a : ℕ) (m : NodeState) → mark marks a ≡ m → ((q : ℕ) → begin ≤ q → ¬ (m ≡ Open q)) → mark marks' a ≡ m
  stays a m is never = closing.others a (λ c. let found = in_part a c in never found.0 found.1 (sym is ∙ found.2)) ∙ is

  stays_new : (a : ℕ) → mark marks a ≡ New → mark marks' a ≡ New
  stays_new a is = stays a New is (λ q low e. cc)

  stays_done : (a n : ℕ) → mark marks a ≡ Done n → mark marks' a ≡ Done n
  stays_done a n is = stays a (Done n) is (λ q low e. cc)

  stays_open : (a p : ℕ) → p < begin → mark marks a ≡ Open p → mark marks' a ≡ Open p
  stays_open a p low is = stays a (Open p) is (λ q above e. let same : p ≡ q = cc in omega arith)

  now_done : (a p : ℕ) → begin ≤ p → mark marks a ≡ Open p → mark marks' a ≡ Done count
  now_done a p low is = let at = k.stands a p is in ap (mark marks') (sym at.1) ∙ closed p low at.0

  was_new : (a : ℕ) → mark marks' a ≡ New → mark marks a ≡ New
  was_new a is = elim (mark_cases (mark marks a)) [
    | inl e ↦ e
    | inr (inl (p, e)) ↦ elim (cases_lt p begin) [
      | inl low ↦ absurd (let now = stays_open a p low e in cc)
      | inr high ↦ absurd (let now = now_done a p high e in cc)
    ]
    | inr (inr (n, e)) ↦ absurd (let now = stays_done a n e in cc)
  ]

  was_open : (a p : ℕ) → mark marks' a ≡ Open p → (mark marks a ≡ Open p) × (p < begin)
  was_open a p is = elim (mark_cases (mark marks a)) [
    | inl e ↦ absurd (let now = stays_new a e in cc)
    | inr (inl (q, e)) ↦ elim (cases_lt q begin) [
      | inl low ↦ let now = stays_open a q low e in let same : q ≡ p = cc in (e ∙ ap Open same, omega arith)
      | inr high ↦ absurd (let now = now_done a q high e in cc)
    ]
    | inr (inr (n, e)) ↦ absurd (let now = stays_done a n e in cc)
  ]

  -- a finished node was finished before, or is of the component
  was_done : (a n : ℕ) → mark marks' a ≡ Done n → (mark marks a ≡ Done n) ⊎ ((n ≡ count) × ((q : ℕ) × (begin ≤ q) × (q < length nodes) × (node_at nodes q ≡ a)))
  was_done a n is = elim (mark_cases (mark marks a)) [
    | inl e ↦ absurd (let now = stays_new a e in cc)
    | inr (inl (q, e)) ↦ elim (cases_lt q begin) [
      | inl low ↦ absurd (let now = stays_open a q low e in cc)
      | inr high ↦ let now = now_done a q high e in let same : n ≡ count = cc in let at = k.stands a q e in inr (same, (q, high, at.0, at.1))
    ]
    | inr (inr (m, e)) ↦ let now = stays_done a m e in let same : m ≡ n = cc in inl (e ∙ ap Done same)
  ]

  -- ---- lists

  abbrev nodes' : List ℕ
  nodes' = take begin nodes

  abbrev bs' : List Boundary
  bs' = take top bs

  count_nodes : length nodes' ≡ begin
  count_nodes = length-take-le begin nodes (omega (arith, begins))

  count_boundaries : length bs' ≡ top
  count_boundaries = length-take-le top bs (omega arith)

  node_left : (p : ℕ) → p < begin → node_at nodes' p ≡ node_at nodes p
  node_left p h = get_or-take begin nodes p 0 h

  boundary_left : (n : ℕ) → n < top → boundary_at bs' n ≡ boundary_at bs n
  boundary_left n h = get_or-take top bs n _ h

  at_left : (P : Boundary → Type 0) (n : ℕ) → n < top → P (boundary_at bs n) → P (boundary_at bs' n)
  at_left P n h p = subst P (sym (boundary_left n h)) p

  begin_of : (n : ℕ) → n < top → (boundary_at bs' n).node ≡ (boundary_at bs n).node
  begin_of n h = ap (λ b. b.node) (boundary_left n h)

  small : (n : ℕ) → n < length bs' → n < top
  small n h = omega (arith, count_boundaries)

  low : (n : ℕ) → n < top → (boundary_at bs n).node < begin
  low n h = (k.rising n top h top_is).0

  inside : (p : ℕ) → p < length nodes' → p < begin
  inside p h = omega (arith, count_nodes)

  at_begin : (n : ℕ) → n < top → node_at nodes' (boundary_at bs' n).node ≡ node_at nodes (boundary_at bs n).node
  at_begin n h = ap (node_at nodes') (begin_of n h) ∙ node_left (boundary_at bs n).node (low n h)

  bounded' : 0 < length nodes' → 0 < length bs'
  bounded' h = elim (cases_lt 0 top) [
    | inl more ↦ omega (arith, count_boundaries)
    | inr none ↦ let zero_ : top ≡ 0 = omega arith in absurd (omega (arith, count_nodes, ap (λ n. (boundary_at bs n).node) zero_, k.first))
  ]

  first' : (boundary_at bs' 0).node ≡ 0
  first' = elim (cases_lt 0 top) [
    | inl more ↦ begin_of 0 more ∙ k.first
    | inr none ↦ ap (λ b. b.node) (get_or_past bs' 0 (record { node = 0; target = 0 }) (omega (arith, count_boundaries)))
  ]

  -- ---- edges

  still_seen : (n b : ℕ) → n < top → IsSeen (λ b. ⊥) marks nodes ts (boundary_at bs n) b → IsSeen (λ b. ⊥) marks' nodes' ts (boundary_at bs n) b
  still_seen n b h (finished number is) = finished number (stays_done b number is)
  still_seen n b h (stacked q lt is above) = elim (cases_lt q begin) [
    | inl below ↦ stacked q (omega (arith, count_nodes)) (node_left q below ∙ is) above
    | inr high ↦ finished count (ap (mark marks') (sym is) ∙ closed q high lt)
  ]
  still_seen n b h (ahead x lt is above) = ahead x lt is above
  still_seen n b h (held never) = absurd never

  -- an edge of the component leads to it, or to what was finished before
  leads : (b : ℕ) → IsSeen (λ b. ⊥) marks nodes ts (boundary_at bs top) b → (m : ℕ) × (mark marks' b ≡ Done m) × (m ≤ count)
  leads b (finished number is) = (number, stays_done b number is, omega (arith, k.numbered b number is))
  leads b (stacked q lt is above) = (count, ap (mark marks') (sym is) ∙ closed q above lt, omega arith)
  leads b (ahead x lt is above) = absurd (omega arith)
  leads b (held never) = absurd never

  falls' : (a b n : ℕ) → mark marks' a ≡ Done n → IsEdge g a b → (m : ℕ) × (mark marks' b ≡ Done m) × (m ≤ n)
  falls' a b n is e = elim (was_done a n is) [
    | inl old ↦ let found = k.falls a b n old e in (found.0, stays_done b found.0 found.1, found.2)
    | inr (same, (q, above, lt, at)) ↦
        let found = leads b (k.seen top q b top_is above lt (subst (λ x. IsEdge g x b) (sym at) e)) in
        (found.0, found.1, omega (arith, found.2))
  ]

  numbered' : (a n : ℕ) → mark marks' a ≡ Done n → n < count + 1
  numbered' a n is = elim (was_done a n is) [
    | inl old ↦ omega (arith, k.numbered a n old)
    | inr found ↦ omega (arith, found.0)
  ]

  same' : (a b n : ℕ) → mark marks' a ≡ Done n → mark marks' b ≡ Done n → Reaches g a b
  same' a b n is is' = elim (was_done a n is) [
    | inl old ↦ elim (was_done b n is') [
      | inl old' ↦ k.same a b n old old'
      | inr found ↦ absurd (omega (arith, found.0, k.numbered a n old))
    ]
    | inr (e, (q, above, lt, at)) ↦ elim (was_done b n is') [
      | inl old' ↦ absurd (omega (arith, k.numbered b n old'))
      | inr (e', (q', above', lt', at')) ↦
          let down = k.back top q top_is above lt (λ l over within. absurd (omega arith)) in
          let up = k.chain begin q' above' lt' in
          between (joined down up) at at'
    ]
  ]

  pub further : IsFurther marks marks'
  further = record { found = λ a old new. old (was_new a new) }

  pub finished_ : IsSearch g (λ b. ⊥) marks' nodes' ts bs' (count + 1)
  finished_ = record {
    size = closing.size ∙ k.size;
    placed = λ p h. let lt = inside p h in ap (mark marks') (node_left p lt) ∙ stays_open (node_at nodes p) p lt (k.placed p (omega (arith, begins)));
    stands = λ a p is. let old = was_open a p is in let at = k.stands a p old.0 in (omega (arith, count_nodes, old.1), node_left p old.1 ∙ at.1);
    nodes_are = λ p h. let lt = inside p h in omega (arith, node_left p lt, k.nodes_are p (omega (arith, begins)));
    targets_are = k.targets_are;
    bounded = bounded';
    first = first';
    within = λ n h. at_left (λ b. (b.node < length nodes') × (b.target ≤ length ts)) n (small n h) (omega (arith, low n (small n h), count_nodes), (k.within n (omega (arith, small n h))).1);
    rising = λ n l less h.
        at_left (λ b. (b.node < (boundary_at bs' l).node) × (b.target ≤ (boundary_at bs' l).target)) n (omega (arith, small l h))
        (at_left (λ b. ((boundary_at bs n).node < b.node) × ((boundary_at bs n).target ≤ b.target)) l (small l h) (k.rising n l less (omega (arith, small l h))));
    chain = λ i j less h. let lt = inside j h in between (k.chain i j less (omega (arith, begins))) (sym (node_left i (omega arith))) (sym (node_left j lt));
    back = λ n j h from lt none_between.
        let under = small n h in
        let before = inside j lt in
        between
        (k.back n j (omega arith) (omega (arith, begin_of n under)) (omega (arith, begins))
        (λ l over within. elim (cases_eq l top) [
          | inl last ↦ omega (arith, ap (λ x. (boundary_at bs x).node) last)
          | inr differs ↦ let less : l < top = omega arith in omega (arith, begin_of l less, none_between l over (omega (arith, count_boundaries)))
        ]))
        (sym (node_left j before)) (sym (at_begin n under));
    pending = λ n x h from lt.
        let under = small n h in
        between (k.pending n x (omega arith) (omega (arith, ap (λ b. b.target) (boundary_left n under))) lt) (sym (at_begin n under)) refl;
    seen = λ n j b h from lt e.
        let under = small n h in
        let before = inside j lt in
        at_left (λ c. IsSeen (λ b. ⊥) marks' nodes' ts c b) n under
        (still_seen n b under (k.seen n j b (omega arith) (omega (arith, begin_of n under)) (omega (arith, begins)) (subst (λ a. IsEdge g a b) (node_left j before) e)));
    falls = falls';
    numbered = numbered';
    same = same';
    room = let total : total_of_new (λ ts. 1) g marks' ≡ total_of_new (λ ts. 1) g marks = same_total (λ ts. 1) g marks marks' (sym closing.size) stays_new was_new in omega (arith, k.room, count_boundaries, total);
  }

  pub less_work : total_of_new (λ ts. length ts + 2) g marks' + length ts + length bs' < total_of_new (λ ts. length ts + 2) g marks + length ts + length bs
  less_work = let total : total_of_new (λ ts. length ts + 2) g marks' ≡ total_of_new (λ ts. length ts + 2) g marks = same_total (λ ts. length ts + 2) g marks marks' (sym closing.size) stays_new was_new in omega (arith, count_boundaries, total)

-- the same of a state, at lists that are equal to these
pub finishing : (g : List (List ℕ)) (old : State) → IsState g old → 0 < length old.boundaries → length old.targets ≤ (boundary_at old.boundaries (length old.boundaries - 1)).target → (marks marks2 : List NodeState) (nodes nodes2 ts part : List ℕ) (bs bs2 : List Boundary) (count from last : ℕ) → (let s : State = record { marks = marks; nodes = nodes; targets = ts; boundaries = bs; count = count } in s ≡ old) → last ≡ length bs - 1 → from ≡ (boundary_at bs last).node → IsPartFrom nodes from part → IsClosed marks part count marks2 → nodes2 ≡ take from nodes → bs2 ≡ take last bs
    → IsSearch g (λ b. ⊥) marks2 nodes2 ts bs2 (count + 1) × (total_of_new (λ ts. length ts + 2) g marks2 + length ts + length bs2 < work g old) × IsFurther old.marks marks2
finishing g old k some used marks marks2 nodes nodes2 ts part bs bs2 count from last view el ef is_part closing en eb =
    let k' = subst (IsState g) (sym view) k in
    let some' = subst (λ s. 0 < length s.boundaries) (sym view) some in
    let used' = subst (λ s. length s.targets ≤ (boundary_at s.boundaries (length s.boundaries - 1)).target) (sym view) used in
    let from_top : from ≡ (boundary_at bs (length bs - 1)).node = ef ∙ ap (λ n. (boundary_at bs n).node) el in
    let part' = subst (λ n. IsPartFrom nodes n part) from_top is_part in
    let less = subst (λ s. total_of_new (λ ts. length ts + 2) g marks2 + length ts + length (take (length bs - 1) bs) < work g s) view (less_work g marks nodes ts bs count k' some' used' part marks2 part' closing) in
    let far = subst (λ s. IsFurther s.marks marks2) view (further g marks nodes ts bs count k' some' used' part marks2 part' closing) in
    let nodes_are : nodes2 ≡ take (boundary_at bs (length bs - 1)).node nodes = en ∙ ap (λ n. take n nodes) from_top in
    let boundaries_are : bs2 ≡ take (length bs - 1) bs = eb ∙ ap (λ n. take n bs) el in
    rw (nodes_are, boundaries_are) (finished_ g marks nodes ts bs count k' some' used' part marks2 part' closing, less, far)
