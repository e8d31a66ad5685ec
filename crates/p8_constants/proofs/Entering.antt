-- A new node goes on the stack, as a component of its own.
use Rattle.std.proofs.Common.{◌≡◌, inl, inr, ℕ, ◌+◌, ◌-◌, ◌<◌, ◌≤◌, List, [], ◌∷◌, ◌++◌, length, set, get_or, refl, sym, ap, ◌∙◌, subst, arith, length-append}
use Rattle.std.proofs.lemmas.Bool.{cases_lt, cases_eq}
use Rattle.std.proofs.lemmas.List.{length-set, length_push, get_or-set_same, get_or-set_other, get_or-append_right, get_or_default}
use Rattle.p8_constants.specs.declared.search.NodeState.{NodeState}
use Rattle.p8_constants.specs.declared.search.NodeState.TheVariants.{New, Open, Done}
use Rattle.p8_constants.specs.declared.search.Boundary.{Boundary}
use Rattle.p8_constants.specs.Graphs.{targets_of, IsEdge, HasItsTargets, Reaches, itself}
use Rattle.p8_constants.specs.Searches.{mark, node_at, boundary_at, total_of_new, IsSeen, finished, stacked, ahead, held, IsSearch, State, IsStateHolding, IsReached, work, IsFurther}
use Rattle.p8_constants.proofs.Paths.{joined, edge, between, pushed, at_left, at_last, edge_to}
use Rattle.p8_constants.proofs.Totals.{found}

-- each node on the stack leads to the begin of the component on top
pub to_top : {Held : ℕ → Type 0} (g : List (List ℕ)) (marks : List NodeState) (nodes ts : List ℕ) (bs : List Boundary) (count i : ℕ) → IsSearch g Held marks nodes ts bs count → i < length nodes → 0 < length bs → Reaches g (node_at nodes i) (node_at nodes (boundary_at bs (length bs - 1)).node)
to_top g marks nodes ts bs count i k lt some =
    let top : length bs - 1 < length bs = omega arith in
    elim (cases_lt i (boundary_at bs (length bs - 1)).node) [
      | inl below ↦ k.chain i (boundary_at bs (length bs - 1)).node (omega arith) (k.within (length bs - 1) top).0
      | inr above ↦ k.back (length bs - 1) i top above lt (λ l over within. absurd (omega arith))
    ]

module _ (g : List (List ℕ)) (marks : List NodeState) (nodes ts : List ℕ) (bs : List Boundary) (count t : ℕ) (k : IsSearch g (λ b. b ≡ t) marks nodes ts bs count) (own : HasItsTargets g) (lt : t < length g) (new : mark marks t ≡ New) (reached : (n : ℕ) → n < length bs → Reaches g (node_at nodes (boundary_at bs n).node) t) where
  abbrev marks' : List NodeState
  marks' = set marks t (Open (length nodes))

  abbrev nodes' : List ℕ
  nodes' = nodes ++ t ∷ []

  abbrev ts' : List ℕ
  ts' = ts ++ targets_of g t

  abbrev boundary : Boundary
  boundary = record { node = length nodes; target = length ts }

  abbrev bs' : List Boundary
  bs' = bs ++ boundary ∷ []

  more_nodes : length nodes' ≡ length nodes + 1
  more_nodes = length_push nodes t

  more_boundaries : length bs' ≡ length bs + 1
  more_boundaries = length_push bs boundary

  more_targets : length ts' ≡ length ts + length (targets_of g t)
  more_targets = length-append ts (targets_of g t)

  here : mark marks' t ≡ Open (length nodes)
  here = get_or-set_same marks t (Open (length nodes)) New (omega (arith, k.size))

  other : (a : ℕ) → ¬ (a ≡ t) → mark marks' a ≡ mark marks a
  other a differs = get_or-set_other marks t a (Open (length nodes)) New differs

  -- a node that was found is another one
  not_new : (a : ℕ) (m : NodeState) → mark marks a ≡ m → ¬ (m ≡ New) → ¬ (a ≡ t)
  not_new a m is old same = old (sym is ∙ (ap (mark marks) same ∙ new))

  open_other : (a p : ℕ) → mark marks a ≡ Open p → ¬ (a ≡ t)
  open_other a p is = not_new a (Open p) is (λ e. cc)

  done_other : (a n : ℕ) → mark marks a ≡ Done n → ¬ (a ≡ t)
  done_other a n is = not_new a (Done n) is (λ e. cc)

  was_done : (a n : ℕ) → mark marks' a ≡ Done n → mark marks a ≡ Done n
  was_done a n is = elim (cases_eq a t) [
    | inl same ↦ absurd (let at : mark marks' a ≡ Open (length nodes) = ap (mark marks') same ∙ here in cc)
    | inr differs ↦ sym (other a differs) ∙ is
  ]

  stays_done : (a n : ℕ) → mark marks a ≡ Done n → mark marks' a ≡ Done n
  stays_done a n is = other a (done_other a n is) ∙ is

  node_left : (p : ℕ) → p < length nodes → node_at nodes' p ≡ node_at nodes p
  node_left p h = at_left nodes (t ∷ []) 0 p h

  node_last : (p : ℕ) → p ≡ length nodes → node_at nodes' p ≡ t
  node_last p e = at_last nodes t 0 p e

  boundary_left : (n : ℕ) → n < length bs → boundary_at bs' n ≡ boundary_at bs n
  boundary_left n h = at_left bs (boundary ∷ []) _ n h

  boundary_last : (n : ℕ) → n ≡ length bs → boundary_at bs' n ≡ boundary
  boundary_last n e = at_last bs boundary _ n e

  target_left : (x : ℕ) → x < length ts → node_at ts' x ≡ node_at ts x
  target_left x h = at_left ts (targets_of g t) 0 x h

  -- a target after the old ones is that of an edge of the node
  new_target : (x : ℕ) → length ts ≤ x → x < length ts' → IsEdge g t (node_at ts' x)
  new_target x low high =
      subst (IsEdge g t) (sym (get_or-append_right ts (targets_of g t) (length ts) x 0 refl low)) (edge_to g t (x - length ts) (omega (arith, more_targets)))

  placed' : (p : ℕ) → p < length nodes' → mark marks' (node_at nodes' p) ≡ Open p
  placed' p h = elim (pushed nodes t p h) [
    | inl low ↦ ap (mark marks') (node_left p low) ∙ (other (node_at nodes p) (open_other (node_at nodes p) p (k.placed p low)) ∙ k.placed p low)
    | inr e ↦ ap (mark marks') (node_last p e) ∙ (here ∙ ap Open (sym e))
  ]

  stands' : (a p : ℕ) → mark marks' a ≡ Open p → (p < length nodes') × (node_at nodes' p ≡ a)
  stands' a p is = elim (cases_eq a t) [
    | inl same ↦
        let at : mark marks' a ≡ Open (length nodes) = ap (mark marks') same ∙ here in
        let e : p ≡ length nodes = cc in
        (omega (arith, more_nodes), node_last p e ∙ sym same)
    | inr differs ↦
        let old = k.stands a p (sym (other a differs) ∙ is) in
        (omega (arith, more_nodes, old.0), node_left p old.0 ∙ old.1)
  ]

  nodes_are' : (p : ℕ) → p < length nodes' → node_at nodes' p < length g
  nodes_are' p h = elim (pushed nodes t p h) [
    | inl low ↦ omega (arith, node_left p low, k.nodes_are p low)
    | inr e ↦ omega (arith, node_last p e)
  ]

  targets_are' : (x : ℕ) → x < length ts' → node_at ts' x < length g
  targets_are' x h = elim (cases_lt x (length ts)) [
    | inl low ↦ omega (arith, target_left x low, k.targets_are x low)
    | inr high ↦ own t (node_at ts' x) (new_target x high h)
  ]

  first' : (boundary_at bs' 0).node ≡ 0
  first' = elim (cases_lt 0 (length bs)) [
    | inl some ↦ ap (λ b. b.node) (boundary_left 0 some) ∙ k.first
    | inr none ↦
        let at : (boundary_at bs' 0).node ≡ length nodes = ap (λ b. b.node) (boundary_last 0 (omega arith)) in
        elim (cases_lt 0 (length nodes)) [ inl some ↦ absurd (omega (arith, k.bounded some)) | inr empty ↦ omega arith ]
  ]

  within' : (n : ℕ) → n < length bs' → ((boundary_at bs' n).node < length nodes') × ((boundary_at bs' n).target ≤ length ts')
  within' n h = elim (pushed bs boundary n h) [
    | inl low ↦
        let old = k.within n low in
        (omega (arith, ap (λ b. b.node) (boundary_left n low), old.0, more_nodes), omega (arith, ap (λ b. b.target) (boundary_left n low), old.1, more_targets))
    | inr e ↦ (omega (arith, ap (λ b. b.node) (boundary_last n e), more_nodes), omega (arith, ap (λ b. b.target) (boundary_last n e), more_targets))
  ]

  rising' : (n l : ℕ) → n < l → l < length bs' → ((boundary_at bs' n).node < (boundary_at bs' l).node) × ((boundary_at bs' n).target ≤ (boundary_at bs' l).target)
  rising' n l less h = elim (pushed bs boundary l h) [
    | inl low ↦
        let small : n < length bs = omega arith in
        let old = k.rising n l less low in (
          omega (arith, ap (λ b. b.node) (boundary_left n small), ap (λ b. b.node) (boundary_left l low), old.0),
          omega (arith, ap (λ b. b.target) (boundary_left n small), ap (λ b. b.target) (boundary_left l low), old.1),
        )
    | inr e ↦
        let small : n < length bs = omega arith in
        let old = k.within n small in (
          omega (arith, ap (λ b. b.node) (boundary_left n small), ap (λ b. b.node) (boundary_last l e), old.0),
          omega (arith, ap (λ b. b.target) (boundary_left n small), ap (λ b. b.target) (boundary_last l e), old.1),
        )
  ]

  -- each node of the stack leads to the new one
  to_new : (i : ℕ) → i < length nodes → Reaches g (node_at nodes i) t
  to_new i h =
      let some : 0 < length bs = k.bounded (omega arith) in
      joined (to_top g marks nodes ts bs count i k h some) (reached (length bs - 1) (omega arith))

  chain' : (i j : ℕ) → i ≤ j → j < length nodes' → Reaches g (node_at nodes' i) (node_at nodes' j)
  chain' i j less h = elim (pushed nodes t j h) [
    | inl low ↦
        let small : i < length nodes = omega arith in
        between (k.chain i j less low) (sym (node_left i small)) (sym (node_left j low))
    | inr e ↦ elim (cases_lt i (length nodes)) [
      | inl small ↦ between (to_new i small) (sym (node_left i small)) (sym (node_last j e))
      | inr big ↦ let same : i ≡ j = omega arith in subst (λ n. Reaches g (node_at nodes' i) (node_at nodes' n)) same itself
    ]
  ]

  back' : (n j : ℕ) → n < length bs' → (boundary_at bs' n).node ≤ j → j < length nodes' → ((l : ℕ) → n < l → l < length bs' → j < (boundary_at bs' l).node) → Reaches g (node_at nodes' j) (node_at nodes' (boundary_at bs' n).node)
  back' n j h low high none_between = elim (pushed bs boundary n h) [
    | inl small ↦
        let same : (boundary_at bs' n).node ≡ (boundary_at bs n).node = ap (λ b. b.node) (boundary_left n small) in
        let under : j < (boundary_at bs' (length bs)).node = none_between (length bs) small (omega (arith, more_boundaries)) in
        let inside : j < length nodes = omega (arith, ap (λ b. b.node) (boundary_last (length bs) refl)) in
        let begin : (boundary_at bs n).node < length nodes = (k.within n small).0 in
        let old = k.back n j small (omega arith) inside (λ l over within. omega (arith, none_between l over (omega (arith, more_boundaries)), ap (λ b. b.node) (boundary_left l within))) in
        between old (sym (node_left j inside)) (sym (node_left (boundary_at bs n).node begin) ∙ ap (node_at nodes') (sym same))
    | inr e ↦
        let same : (boundary_at bs' n).node ≡ length nodes = ap (λ b. b.node) (boundary_last n e) in
        let at : j ≡ (boundary_at bs' n).node = omega (arith, more_nodes) in
        subst (λ m. Reaches g (node_at nodes' j) (node_at nodes' m)) at itself
  ]

  pending' : (n x : ℕ) → n < length bs' → (boundary_at bs' n).target ≤ x → x < length ts' → Reaches g (node_at nodes' (boundary_at bs' n).node) (node_at ts' x)
  pending' n x h low high = elim (pushed bs boundary n h) [
    | inl small ↦
        let same : (boundary_at bs' n).node ≡ (boundary_at bs n).node = ap (λ b. b.node) (boundary_left n small) in
        let begin : (boundary_at bs n).node < length nodes = (k.within n small).0 in
        let from : node_at nodes (boundary_at bs n).node ≡ node_at nodes' (boundary_at bs' n).node = sym (node_left (boundary_at bs n).node begin) ∙ ap (node_at nodes') (sym same) in
        elim (cases_lt x (length ts)) [
          | inl inside ↦ between (k.pending n x small (omega (arith, ap (λ b. b.target) (boundary_left n small))) inside) from (sym (target_left x inside))
          | inr behind ↦ between (joined (reached n small) (edge (new_target x behind high))) from refl
        ]
    | inr e ↦
        let same : (boundary_at bs' n).node ≡ length nodes = ap (λ b. b.node) (boundary_last n e) in
        let behind : length ts ≤ x = omega (arith, ap (λ b. b.target) (boundary_last n e)) in
        between (edge (new_target x behind high)) (sym (node_last (boundary_at bs' n).node same)) refl
  ]

  still_seen : (n b : ℕ) → n < length bs → IsSeen (λ b. b ≡ t) marks nodes ts (boundary_at bs n) b → IsSeen (λ b. ⊥) marks' nodes' ts' (boundary_at bs n) b
  still_seen n b h (finished number is) = finished number (stays_done b number is)
  still_seen n b h (stacked q low is above) = stacked q (omega (arith, more_nodes)) (node_left q low ∙ is) above
  still_seen n b h (ahead x low is above) = ahead x (omega (arith, more_targets)) (target_left x low ∙ is) above
  still_seen n b h (held same) = stacked (length nodes) (omega (arith, more_nodes)) (node_last (length nodes) refl ∙ sym same) (omega (arith, (k.within n h).0))

  back_to : (i : ℕ) → length ts + i - length ts ≡ i
  back_to i = omega arith

  -- an edge of the new node is still to be followed
  new_seen : (c : Boundary) (b : ℕ) → c.target ≤ length ts → IsEdge g t b → IsSeen (λ b. ⊥) marks' nodes' ts' c b
  new_seen c b low e =
      let (i, within, is) = e.target in
      ahead (length ts + i) (omega (arith, more_targets)) (get_or-append_right ts (targets_of g t) (length ts) (length ts + i) 0 refl (omega arith) ∙ (ap (λ x. get_or (targets_of g t) x 0) (back_to i) ∙ (get_or_default (targets_of g t) i 0 b within ∙ is))) (omega arith)

  seen' : (n j b : ℕ) → n < length bs' → (boundary_at bs' n).node ≤ j → j < length nodes' → IsEdge g (node_at nodes' j) b → IsSeen (λ b. ⊥) marks' nodes' ts' (boundary_at bs' n) b
  seen' n j b h low high e = elim (pushed nodes t j high) [
    | inl inside ↦ elim (pushed bs boundary n h) [
      | inl small ↦
          let is = boundary_left n small in
          subst (λ c. IsSeen (λ b. ⊥) marks' nodes' ts' c b) (sym is)
          (still_seen n b small (k.seen n j b small (omega (arith, ap (λ b. b.node) is)) inside (subst (λ a. IsEdge g a b) (node_left j inside) e)))
      | inr at ↦ absurd (omega (arith, ap (λ b. b.node) (boundary_last n at)))
    ]
    | inr at ↦
        let low : (boundary_at bs' n).target ≤ length ts = elim (pushed bs boundary n h) [
          | inl small ↦ omega (arith, ap (λ b. b.target) (boundary_left n small), (k.within n small).1)
          | inr last ↦ omega (arith, ap (λ b. b.target) (boundary_last n last))
        ] in
        new_seen (boundary_at bs' n) b low (subst (λ a. IsEdge g a b) (node_last j at) e)
  ]

  pub further : IsFurther marks marks'
  further = record {
    found = λ a old new_. elim (cases_eq a t) [
      | inl same ↦ let at : mark marks' a ≡ Open (length nodes) = ap (mark marks') same ∙ here in cc
      | inr differs ↦ old (sym (other a differs) ∙ new_)
    ];
  }

  pub entered : IsSearch g (λ b. ⊥) marks' nodes' ts' bs' count
  entered = record {
    size = length-set marks t (Open (length nodes)) ∙ k.size;
    placed = placed';
    stands = stands';
    nodes_are = nodes_are';
    targets_are = targets_are';
    bounded = λ some. omega (arith, more_boundaries);
    first = first';
    within = within';
    rising = rising';
    chain = chain';
    back = back';
    pending = pending';
    seen = seen';
    falls = λ a b n is e. let old = k.falls a b n (was_done a n is) e in (old.0, stays_done b old.0 old.1, old.2);
    numbered = λ a n is. k.numbered a n (was_done a n is);
    same = λ a b n is is'. k.same a b n (was_done a n is) (was_done b n is');
    room = let less : total_of_new (λ ts. 1) g marks' + 1 ≡ total_of_new (λ ts. 1) g marks = found (λ ts. 1) g marks t (length nodes) lt (omega (arith, k.size)) new in omega (arith, k.room, more_boundaries, less);
  }

  pub less_work : total_of_new (λ ts. length ts + 2) g marks' + length ts' + length bs' < total_of_new (λ ts. length ts + 2) g marks + length ts + length bs
  less_work = let less : total_of_new (λ ts. length ts + 2) g marks' + (length (targets_of g t) + 2) ≡ total_of_new (λ ts. length ts + 2) g marks = found (λ ts. length ts + 2) g marks t (length nodes) lt (omega (arith, k.size)) new in omega (arith, more_boundaries, more_targets, less)

-- the same of a state, at lists that are equal to these
module _ (g : List (List ℕ)) (old : State) (t : ℕ) (k : IsStateHolding g (λ b. b ≡ t) old) (own : HasItsTargets g) (lt : t < length g) (new : mark old.marks t ≡ New) (reached : IsReached g old t) where
  pub entering : (marks : List NodeState) (nodes ts : List ℕ) (bs : List Boundary) (count p q : ℕ) (nodes2 ts2 : List ℕ) (bs2 : List Boundary) → (let s : State = record { marks = marks; nodes = nodes; targets = ts; boundaries = bs; count = count } in s ≡ old) → p ≡ length nodes → q ≡ length ts → nodes2 ≡ nodes ++ t ∷ [] → ts2 ≡ ts ++ targets_of g t → bs2 ≡ bs ++ record { node = p; target = q } ∷ []
      → IsSearch g (λ b. ⊥) (set marks t (Open p)) nodes2 ts2 bs2 count × (total_of_new (λ ts. length ts + 2) g (set marks t (Open p)) + length ts2 + length bs2 < work g old) × IsFurther old.marks (set marks t (Open p)) × ¬ (mark (set marks t (Open p)) t ≡ New)
  entering marks nodes ts bs count p q nodes2 ts2 bs2 view ep eq en et eb =
      let eb' : bs2 ≡ bs ++ record { node = length nodes; target = length ts } ∷ [] = eb ∙ (ap (λ p. bs ++ record { node = p; target = q } ∷ []) ep ∙ ap (λ q. bs ++ record { node = length nodes; target = q } ∷ []) eq) in
      let k' = subst (IsStateHolding g (λ b. b ≡ t)) (sym view) k in
      let new' = subst (λ s. mark s.marks t ≡ New) (sym view) new in
      let reached' = subst (λ s. IsReached g s t) (sym view) reached in
      let less = subst (λ s. total_of_new (λ ts. length ts + 2) g (set marks t (Open (length nodes))) + length (ts ++ targets_of g t) + length (bs ++ record { node = length nodes; target = length ts } ∷ []) < work g s) view (less_work g marks nodes ts bs count t k' own lt new' reached') in
      let far = subst (λ s. IsFurther s.marks (set marks t (Open (length nodes)))) view (further g marks nodes ts bs count t k' own lt new' reached') in
      let at = here g marks nodes ts bs count t k' own lt new' reached' in
      rw (ep, en, et, eb') (entered g marks nodes ts bs count t k' own lt new' reached', less, far, λ e. cc)
