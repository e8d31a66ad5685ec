-- An edge is followed: its target is taken from the stack, and is finished or open already.
use Rattle.std.proofs.Common.{◌≡◌, inl, inr, ℕ, ◌+◌, ◌-◌, ◌<◌, ◌≤◌, List, [], ◌∷◌, ◌++◌, length, take, get_or, refl, sym, ap, ◌∙◌, subst, arith}
use Rattle.std.proofs.lemmas.Bool.{cases_lt, cases_eq}
use Rattle.std.proofs.lemmas.List.{length-take-le, get_or-take, length_push, get_or_read}
use Rattle.p8_constants.specs.declared.search.NodeState.{NodeState}
use Rattle.p8_constants.specs.declared.search.NodeState.TheVariants.{Open, Done}
use Rattle.p8_constants.specs.declared.search.Boundary.{Boundary}
use Rattle.p8_constants.specs.Graphs.{Reaches}
use Rattle.p8_constants.specs.Searches.{mark, node_at, boundary_at, total_of_new, IsSeen, finished, stacked, ahead, held, IsSearch, State, IsStateHolding, IsState, IsReached, work, IsCut}
use Rattle.p8_constants.proofs.Paths.{joined, between, pushed, at_left, at_last}
use Rattle.p8_constants.proofs.Entering.{to_top}

-- ---- a target is taken

module _ (g : List (List ℕ)) (marks : List NodeState) (nodes ts : List ℕ) (bs : List Boundary) (count t : ℕ) (k : IsSearch g (λ b. ⊥) marks nodes (ts ++ t ∷ []) bs count) (top : (boundary_at bs (length bs - 1)).target ≤ length ts) where
  under_top : (n : ℕ) → n < length bs → (boundary_at bs n).target ≤ length ts
  under_top n h = elim (cases_eq n (length bs - 1)) [
    | inl same ↦ omega (arith, ap (λ m. (boundary_at bs m).target) same)
    | inr differs ↦ let less : n < length bs - 1 = omega arith in omega (arith, (k.rising n (length bs - 1) less (omega arith)).1)
  ]

  left : (x : ℕ) → x < length ts → node_at (ts ++ t ∷ []) x ≡ node_at ts x
  left x h = at_left ts (t ∷ []) 0 x h

  taken_seen : (c : Boundary) (b : ℕ) → IsSeen (λ b. ⊥) marks nodes (ts ++ t ∷ []) c b → IsSeen (λ b. b ≡ t) marks nodes ts c b
  taken_seen c b (finished number is) = finished number is
  taken_seen c b (stacked q low is above) = stacked q low is above
  taken_seen c b (ahead x low is above) = elim (pushed ts t x low) [
    | inl inside ↦ ahead x inside (sym (left x inside) ∙ is) above
    | inr e ↦ held (sym is ∙ at_last ts t 0 x e)
  ]
  taken_seen c b (held never) = absurd never

  pub taken : IsSearch g (λ b. b ≡ t) marks nodes ts bs count
  taken = record {
    size = k.size;
    placed = k.placed;
    stands = k.stands;
    nodes_are = k.nodes_are;
    targets_are = λ x h. omega (arith, left x h, k.targets_are x (omega (arith, length_push ts t)));
    bounded = k.bounded;
    first = k.first;
    within = λ n h. ((k.within n h).0, under_top n h);
    rising = k.rising;
    chain = k.chain;
    back = k.back;
    pending = λ n x h low high. between (k.pending n x h low (omega (arith, length_push ts t))) refl (left x high);
    seen = λ n j b h low high e. taken_seen (boundary_at bs n) b (k.seen n j b h low high e);
    falls = k.falls;
    numbered = k.numbered;
    same = k.same;
    room = k.room;
  }

  pub taken_is : t < length g
  taken_is = omega (arith, at_last ts t 0 (length ts) refl, k.targets_are (length ts) (omega (arith, length_push ts t)))

  pub taken_reached : (n : ℕ) → n < length bs → Reaches g (node_at nodes (boundary_at bs n).node) t
  taken_reached n h = between (k.pending n (length ts) h (under_top n h) (omega (arith, length_push ts t))) refl (at_last ts t 0 (length ts) refl)

-- ---- it is finished already

skipped_seen : (marks : List NodeState) (nodes ts : List ℕ) (c : Boundary) (b t n : ℕ) → mark marks t ≡ Done n → IsSeen (λ b. b ≡ t) marks nodes ts c b → IsSeen (λ b. ⊥) marks nodes ts c b
skipped_seen marks nodes ts c b t n done (finished number is) = finished number is
skipped_seen marks nodes ts c b t n done (stacked q low is above) = stacked q low is above
skipped_seen marks nodes ts c b t n done (ahead x low is above) = ahead x low is above
skipped_seen marks nodes ts c b t n done (held same) = finished n (ap (mark marks) same ∙ done)

pub skipped : (g : List (List ℕ)) (s : State) (t n : ℕ) → IsStateHolding g (λ b. b ≡ t) s → mark s.marks t ≡ Done n → IsState g s
skipped g s t n k done = record {
  size = k.size;
  placed = k.placed;
  stands = k.stands;
  nodes_are = k.nodes_are;
  targets_are = k.targets_are;
  bounded = k.bounded;
  first = k.first;
  within = k.within;
  rising = k.rising;
  chain = k.chain;
  back = k.back;
  pending = k.pending;
  seen = λ m j b h low high e. skipped_seen s.marks s.nodes s.targets (boundary_at s.boundaries m) b t n done (k.seen m j b h low high e);
  falls = k.falls;
  numbered = k.numbered;
  same = k.same;
  room = k.room;
}

-- ---- it is open: the components above its own are one with it

module _ (g : List (List ℕ)) (marks : List NodeState) (nodes ts : List ℕ) (bs : List Boundary) (count t p m : ℕ) (k : IsSearch g (λ b. b ≡ t) marks nodes ts bs count) (open_ : mark marks t ≡ Open p) (reached : (n : ℕ) → n < length bs → Reaches g (node_at nodes (boundary_at bs n).node) t) (cut : IsCut bs p m) where
  count_kept : length (take m bs) ≡ m
  count_kept = length-take-le m bs cut.within

  kept_at : (n : ℕ) → n < m → boundary_at (take m bs) n ≡ boundary_at bs n
  kept_at n h = get_or-take m bs n _ h

  low : (n : ℕ) → n < m → (boundary_at bs n).node ≤ p
  low n h =
      let last = cut.below (omega arith) in
      elim (cases_eq n (m - 1)) [
        | inl same ↦ omega (arith, last, ap (λ x. (boundary_at bs x).node) same)
        | inr differs ↦ let less : n < m - 1 = omega arith in omega (arith, last, (k.rising n (m - 1) less (omega (arith, cut.within))).0)
      ]

  some : 0 < m
  some = elim (cases_lt 0 m) [
    | inl h ↦ h
    | inr h ↦ absurd (omega (arith, k.first, cut.above 0 h (k.bounded (omega (arith, (k.stands t p open_).0)))))
  ]

  -- a node above the begin of a dropped component leads to the begin of the one that is kept
  round : (j : ℕ) → j < length nodes → Reaches g (node_at nodes j) (node_at nodes (boundary_at bs (m - 1)).node)
  round j h =
      let at = k.stands t p open_ in
      let boundaries : 0 < length bs = k.bounded (omega arith) in
      let up = to_top g marks nodes ts bs count j k h boundaries in
      let over = reached (length bs - 1) (omega arith) in
      let down = k.back (m - 1) p (omega (arith, some, cut.within)) (low (m - 1) (omega (arith, some))) at.0 (λ l above within. cut.above l (omega arith) within) in
      joined up (joined over (between down at.1 refl))

  back' : (n j : ℕ) → n < m → (boundary_at bs n).node ≤ j → j < length nodes → ((l : ℕ) → n < l → l < m → j < (boundary_at bs l).node) → Reaches g (node_at nodes j) (node_at nodes (boundary_at bs n).node)
  back' n j h begins inside none_between = elim (cases_eq n (m - 1)) [
    | inl same ↦ between (round j inside) refl (ap (λ x. node_at nodes (boundary_at bs x).node) (sym same))
    | inr differs ↦
        let next : j < (boundary_at bs (m - 1)).node = none_between (m - 1) (omega arith) (omega (arith, some)) in
        k.back n j (omega (arith, cut.within)) begins inside (λ l above within. elim (cases_lt l m) [
          | inl small ↦ none_between l above small
          | inr big ↦ omega (arith, next, (k.rising (m - 1) l (omega (arith, some)) within).0)
        ])
  ]

  merged_seen : (n b : ℕ) → n < m → IsSeen (λ b. b ≡ t) marks nodes ts (boundary_at bs n) b → IsSeen (λ b. ⊥) marks nodes ts (boundary_at bs n) b
  merged_seen n b h (finished number is) = finished number is
  merged_seen n b h (stacked q lt is above) = stacked q lt is above
  merged_seen n b h (ahead x lt is above) = ahead x lt is above
  merged_seen n b h (held same) = let at = k.stands t p open_ in stacked p at.0 (at.1 ∙ sym same) (low n h)

  small : (n : ℕ) → n < length (take m bs) → n < m
  small n h = omega (arith, count_kept)

  -- by what stands in the longer list
  at_kept : (P : Boundary → Type 0) (n : ℕ) → n < m → P (boundary_at bs n) → P (boundary_at (take m bs) n)
  at_kept P n h p = subst P (sym (kept_at n h)) p

  begin_of : (n : ℕ) → n < m → (boundary_at (take m bs) n).node ≡ (boundary_at bs n).node
  begin_of n h = ap (λ b. b.node) (kept_at n h)

  pub merged : IsSearch g (λ b. ⊥) marks nodes ts (take m bs) count
  merged = record {
    size = k.size;
    placed = k.placed;
    stands = k.stands;
    nodes_are = k.nodes_are;
    targets_are = k.targets_are;
    bounded = λ h. omega (arith, some, count_kept);
    first = begin_of 0 some ∙ k.first;
    within = λ n h. at_kept (λ b. (b.node < length nodes) × (b.target ≤ length ts)) n (small n h) (k.within n (omega (arith, small n h, cut.within)));
    rising = λ n l less h.
        at_kept (λ b. (b.node < (boundary_at (take m bs) l).node) × (b.target ≤ (boundary_at (take m bs) l).target)) n (omega (arith, small l h))
        (at_kept (λ b. ((boundary_at bs n).node < b.node) × ((boundary_at bs n).target ≤ b.target)) l (small l h) (k.rising n l less (omega (arith, small l h, cut.within))));
    chain = k.chain;
    back = λ n j h begins inside none_between.
        between (back' n j (small n h) (omega (arith, begin_of n (small n h))) inside (λ l above within. omega (arith, begin_of l within, none_between l above (omega (arith, count_kept))))) refl (ap (node_at nodes) (sym (begin_of n (small n h))));
    pending = λ n x h begins inside.
        between (k.pending n x (omega (arith, small n h, cut.within)) (omega (arith, ap (λ b. b.target) (kept_at n (small n h)))) inside) (ap (node_at nodes) (sym (begin_of n (small n h)))) refl;
    seen = λ n j b h begins inside e.
        at_kept (λ c. IsSeen (λ b. ⊥) marks nodes ts c b) n (small n h) (merged_seen n b (small n h) (k.seen n j b (omega (arith, small n h, cut.within)) (omega (arith, begin_of n (small n h))) inside e));
    falls = k.falls;
    numbered = k.numbered;
    same = k.same;
    room = omega (arith, k.room, count_kept, cut.within);
  }

-- ---- the same of a state, at lists that are equal to these

pub merging : (g : List (List ℕ)) (old : State) (t p m : ℕ) → IsStateHolding g (λ b. b ≡ t) old → IsReached g old t → mark old.marks t ≡ Open p → (marks : List NodeState) (nodes ts : List ℕ) (bs bs2 : List Boundary) (count : ℕ) → (let s : State = record { marks = marks; nodes = nodes; targets = ts; boundaries = bs; count = count } in s ≡ old) → IsCut bs p m → bs2 ≡ take m bs
    → IsSearch g (λ b. ⊥) marks nodes ts bs2 count × (total_of_new (λ ts. length ts + 2) g marks + length ts + length bs2 ≤ work g old)
merging g old t p m k reached open_ marks nodes ts bs bs2 count view cut e =
    let k' = subst (IsStateHolding g (λ b. b ≡ t)) (sym view) k in
    let open' = subst (λ s. mark s.marks t ≡ Open p) (sym view) open_ in
    let reached' = subst (λ s. IsReached g s t) (sym view) reached in
    let shorter : total_of_new (λ ts. length ts + 2) g marks + length ts + length (take m bs) ≤ total_of_new (λ ts. length ts + 2) g marks + length ts + length bs = omega (arith, length-take-le m bs cut.within, cut.within) in
    let less = subst (λ s. total_of_new (λ ts. length ts + 2) g marks + length ts + length (take m bs) ≤ work g s) view shorter in
    rw e (merged g marks nodes ts bs count t p m k' open' reached' cut, less)

pub taking : (g : List (List ℕ)) (old : State) → IsState g old → (marks : List NodeState) (nodes ts2 ts : List ℕ) (bs : List Boundary) (count t : ℕ) → (let s : State = record { marks = marks; nodes = nodes; targets = ts2; boundaries = bs; count = count } in s ≡ old) → ts2 ≡ ts ++ t ∷ [] → (boundary_at bs (length bs - 1)).target ≤ length ts
    → IsSearch g (λ b. b ≡ t) marks nodes ts bs count × (t < length g) × ((n : ℕ) → n < length bs → Reaches g (node_at nodes (boundary_at bs n).node) t)
taking g old k marks nodes ts2 ts bs count t view e top =
    let k1 = subst (IsState g) (sym view) k in
    let k2 = subst (λ ts. IsSearch g (λ b. ⊥) marks nodes ts bs count) e k1 in
    (taken g marks nodes ts bs count t k2 top, taken_is g marks nodes ts bs count t k2 top, taken_reached g marks nodes ts bs count t k2 top)

-- the boundary that was read last
pub top_is : (bs : List Boundary) (n : ℕ) (b : Boundary) → n ≡ length bs → 0 < length bs → b ≡ get_or bs (n - 1) b → b ≡ boundary_at bs (length bs - 1)
top_is bs n b count some is = get_or_read bs (n - 1) b (omega arith) is _ ∙ ap (λ n. boundary_at bs (n - 1)) count
