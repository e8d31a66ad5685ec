-- Seats are parted and joined, and the first seat has all passes.
use Rattle.std.proofs.Common.{◌≡◌, ◌≢◌, ◌⊎◌, inl, inr, ⊎_elim, ◌∙◌, ap, sym, subst, refl, ℕ, zero, suc, ◌+◌, ◌-◌, ◌==◌, ◌<◌, ◌≤◌, List, [], ◌∷◌, ◌++◌, length, Bool, true, false, Option, Some, None, arith, if◌then◌else◌}
use Rattle.std.specs.Prelude.{slice_set}
use mathlib.Core.Option.{some, some-injective, some-ne-none}
use lib.ListN.{get_elem?}
use Rattle.atomic_table.specs.Table.{Splits, Joins, opening}
use Rattle.atomic_table.proofs.Lists.{at_set}
use Rattle.p8_ledger.specs.declared.start.Start.{Start}
use Rattle.p8_ledger.specs.declared.ledger.Ledger.{Ledger}
use Rattle.p8_ledger.specs.Records.{Record}
use Rattle.p8_ledger.specs.Ledgers.{Found}
use Rattle.p8_desk.specs.declared.rule.Known.{Known}
use Rattle.p8_desk.specs.declared.rule.View.{View}
use Rattle.p8_desk.specs.Rules.{world_in, known, PassFits, Fits, Kept, new_pass, new_passes, first_view, without, with_passes, list_of, without_pass, pass_alone, joined, spent_view}
use Rattle.p8_desk.proofs.Lookups.{some-same, none-some, same-by-test, test-same, test-apart, known-cog, known-without, known-of-two}

-- the last entry or an earlier one
at-end : {A : Type 0} (l : List A) (a b : A) (j : ℕ) → get_elem? (l ++ a ∷ []) j ≡ some b → ((j < length l) × (get_elem? l j ≡ some b)) ⊎ ((j ≡ length l) × (a ≡ b))
at-end [] a b zero e = inr (refl, some-injective a b e)
at-end [] a b (suc j) e = absurd (some-ne-none b (sym e))
at-end (x ∷ xs) a b zero e = inl (omega arith, e)
at-end (x ∷ xs) a b (suc j) e = ⊎_elim (λ t. inl ((let l = t.0 in omega arith), t.1)) (λ t. inr (ap suc t.0, t.1)) (at-end xs a b j e)

pub length-set : {A : Type 0} (l : List A) (i : ℕ) (a : A) → length (slice_set l i a) ≡ length l
length-set [] i a = refl
length-set (x ∷ xs) zero a = refl
length-set (x ∷ xs) (suc i) a = ap suc (length-set xs i a)

at-below : {A : Type 0} (l : List A) (i : ℕ) (a : A) → get_elem? l i ≡ some a → i < length l
at-below [] i a e = absurd (some-ne-none a (sym e))
at-below (x ∷ xs) zero a e = omega arith
at-below (x ∷ xs) (suc i) a e = let l = at-below xs i a e in omega arith

-- a new owner of one cog's pass
abbrev moved_to : (ℕ → ℕ) → ℕ → ℕ → ℕ → ℕ
moved_to owner n by m = if m == n then by else owner m

moved-here : (owner : ℕ → ℕ) (n by m : ℕ) → m ≡ n → moved_to owner n by m ≡ by
moved-here owner n by m e = rw (test-same m n e) refl

moved-beside : (owner : ℕ → ℕ) (n by m : ℕ) → m ≢ n → moved_to owner n by m ≡ owner m
moved-beside owner n by m ne = rw (test-apart m n ne) refl

-- a seat that keeps its passes where others change theirs
refit : (start : Start) (r : Record) (owner next : ℕ → ℕ) (lock by : ℕ) (x : View) → ((m : ℕ) → owner m ≡ by → next m ≡ by) → Fits start r owner lock by x → Fits start r next lock by x
refit start r owner next lock by x same fits = record {
  same_start = fits.same_start;
  passes = λ m q e. (let was = fits.passes m q e in record { here = same m was.here; cog = was.cog; agrees = was.agrees; locked = was.locked });
  hold = λ m e. (let was = fits.hold m e in record { here = same m was.here; locked = was.locked; pass = was.pass; known = was.known; seen = was.seen });
}

-- some of the passes of a seat that doesn't hold, in the seat `to`
subfit : (start : Start) (r : Record) (owner next : ℕ → ℕ) (lock by to : ℕ) (v : View) (ps : List Known) → v.holds ≡ None → Fits start r owner lock by v
    → ((m : ℕ) (q : Known) → known ps m ≡ Some q → (known v.passes m ≡ Some q) × (next m ≡ to)) → Fits start r next lock to (with_passes v ps)
subfit start r owner next lock by to v ps free fits part = record {
  same_start = fits.same_start;
  passes = λ m q e. (let p = part m q e in let was = fits.passes m q p.0 in record { here = p.1; cog = was.cog; agrees = was.agrees; locked = λ l. absurd (none-some m (sym free ∙ was.locked l)) });
  hold = λ m e. absurd (none-some m e);
}

pub splits : (n : ℕ) (start : Start) (id : ℕ) (v : View) → v.live ≡ true → v.holds ≡ None → Splits (Kept start) id v (without_pass n v) (pass_alone n v)
splits n start id v live free s h at = by-known (known v.passes n) refl
  where
    own : Fits start h.r h.owner h.lock id v
    own = h.each id v at live

    fresh : id ≢ length s.views
    fresh e = let l = at-below s.views id v at in omega arith

    with-owner : (next : ℕ → ℕ) (left right : List Known)
        → ((by m : ℕ) → by ≢ id → h.owner m ≡ by → next m ≡ by)
        → ((m : ℕ) (q : Known) → known left m ≡ Some q → (known v.passes m ≡ Some q) × (next m ≡ id))
        → ((m : ℕ) (q : Known) → known right m ≡ Some q → (known v.passes m ≡ Some q) × (next m ≡ length s.views))
        → Kept start (record { words = s.words; homes = s.homes; views = slice_set s.views id (with_passes v left) ++ with_passes v right ∷ [] })
    with-owner next left right same l r = record {
      r = h.r;
      owner = next;
      lock = h.lock;
      most = h.most;
      newest = h.newest;
      bells = h.bells;
      words = h.words;
      home = h.home;
      each = λ by x e alive. ⊎_elim
          (λ (t : (by < length (slice_set s.views id (with_passes v left))) × (get_elem? (slice_set s.views id (with_passes v left)) by ≡ some x)). ⊎_elim
          (λ (y : (by ≡ id) × (with_passes v left ≡ x)). subst (λ (z : ℕ × View). Fits start h.r next h.lock z.0 z.1) (λ i. (sym y.0 i, y.1 i)) (subfit start h.r h.owner next h.lock id id v left free own l))
          (λ (y : (by ≢ id) × (get_elem? s.views by ≡ some x)). refit start h.r h.owner next h.lock by x (λ m o. same by m y.0 o) (h.each by x y.1 alive))
          (at_set s.views id by (with_passes v left) x t.1))
          (λ (t : (by ≡ length (slice_set s.views id (with_passes v left))) × (with_passes v right ≡ x)).
          subst (λ (z : ℕ × View). Fits start h.r next h.lock z.0 z.1) (λ i. (sym (t.0 ∙ length-set s.views id (with_passes v left)) i, t.1 i)) (subfit start h.r h.owner next h.lock id (length s.views) v right free own r))
          (at-end (slice_set s.views id (with_passes v left)) (with_passes v right) x by e);
    }

    by-known : (o : Option Known) → known v.passes n ≡ o → Kept start (record { words = s.words; homes = s.homes; views = slice_set s.views id (with_passes v (without n v.passes)) ++ with_passes v (list_of o) ∷ [] })
    by-known None is = with-owner h.owner (without n v.passes) []
        (λ by m ne o. o)
        (λ m q e. (let x = known-without n v.passes m q e in (x.1, (own.passes m q x.1).here)))
        (λ m q e. absurd (none-some q e))
    by-known (Some p) is = with-owner (moved_to h.owner n (length s.views)) (without n v.passes) (p ∷ [])
        (λ by m ne o. moved-beside h.owner n (length s.views) m (λ c. ne (sym o ∙ ap h.owner c ∙ (own.passes n p is).here)) ∙ o)
        (λ m q e. (let x = known-without n v.passes m q e in (x.1, moved-beside h.owner n (length s.views) m x.0 ∙ (own.passes m q x.1).here)))
        (λ m q e. one m q e (p.cog == m) refl)
      where
        one : (m : ℕ) (q : Known) → known (p ∷ []) m ≡ Some q → (b : Bool) → (p.cog == m) ≡ b → (known v.passes m ≡ Some q) × (moved_to h.owner n (length s.views) m ≡ length s.views)
        one m q e true c =
            let here : m ≡ n = sym (same-by-test _ _ c) ∙ known-cog v.passes n p is in
            (ap (known v.passes) here ∙ is ∙ rw c at e, moved-here h.owner n (length s.views) m here)
        one m q e false c = absurd (none-some q (rw c at e))

pub joins : (start : Start) (id : ℕ) (v : View) (other : ℕ) (u : View) → v.live ≡ true → v.holds ≡ None → u.live ≡ true → u.holds ≡ None → Joins (Kept start) id v other u (joined v u) spent_view
joins start id v other u live free alive idle s h at apart there = record {
  r = h.r;
  owner = next;
  lock = h.lock;
  most = h.most;
  newest = h.newest;
  bells = h.bells;
  words = h.words;
  home = h.home;
  each = λ by x e al. ⊎_elim
      (λ (t : (by ≡ other) × (spent_view ≡ x)). absurd (dead (ap (λ (y : View). y.live) t.1 ∙ al)))
      (λ (t : (by ≢ other) × (get_elem? (slice_set s.views id (joined v u)) by ≡ some x)). ⊎_elim
      (λ (y : (by ≡ id) × (joined v u ≡ x)). subst (λ (z : ℕ × View). Fits start h.r next h.lock z.0 z.1) (λ i. (sym y.0 i, y.1 i)) both)
      (λ (y : (by ≢ id) × (get_elem? s.views by ≡ some x)). refit start h.r h.owner next h.lock by x (λ m o. stays m (λ c. t.0 (sym o ∙ c)) ∙ o) (h.each by x y.1 al))
      (at_set s.views id by (joined v u) x t.1))
      (at_set (slice_set s.views id (joined v u)) other by spent_view x e);
}
  where
    dead : false ≡ true → ⊥
    dead e = cc

    next : ℕ → ℕ
    next m = if h.owner m == other then id else h.owner m

    stays : (m : ℕ) → h.owner m ≢ other → (if h.owner m == other then id else h.owner m) ≡ h.owner m
    stays m ne = rw (test-apart (h.owner m) other ne) refl

    goes : (m : ℕ) → h.owner m ≡ other → (if h.owner m == other then id else h.owner m) ≡ id
    goes m e = rw (test-same (h.owner m) other e) refl

    own : Fits start h.r h.owner h.lock id v
    own = h.each id v at live

    theirs : Fits start h.r h.owner h.lock other u
    theirs = ⊎_elim (λ (t : (other ≡ id) × (joined v u ≡ u)). absurd (apart t.0)) (λ (t : (other ≢ id) × (get_elem? s.views other ≡ some u)). h.each other u t.1 alive) (at_set s.views id other (joined v u) u there)

    both : Fits start h.r (λ m. if h.owner m == other then id else h.owner m) h.lock id (joined v u)
    both = record {
      same_start = own.same_start;
      passes = λ m q e. ⊎_elim
          (λ k. (let was = own.passes m q k in record { here = stays m (λ c. apart (sym c ∙ was.here)) ∙ was.here; cog = was.cog; agrees = was.agrees; locked = λ l. absurd (none-some m (sym free ∙ was.locked l)) }))
          (λ k. (let was = theirs.passes m q k in record { here = goes m was.here; cog = was.cog; agrees = was.agrees; locked = λ l. absurd (none-some m (sym idle ∙ was.locked l)) }))
          (known-of-two v.passes u.passes m q e);
      hold = λ m e. absurd (none-some m e);
    }

known-new : (k from n : ℕ) (p : Known) → known (new_passes k from) n ≡ Some p → (from ≤ n) × (n < from + k) × (new_pass n ≡ p)
known-new zero from n p e = absurd (none-some p e)
known-new (suc k) from n p e = by-test (known-new k (suc from) n p) (from == n) refl
  where
    by-test : (known (new_passes k (suc from)) n ≡ Some p → (suc from ≤ n) × (n < suc from + k) × (new_pass n ≡ p)) → (b : Bool) → (from == n) ≡ b → (from ≤ n) × (n < from + suc k) × (new_pass n ≡ p)
    by-test more true t = let same : from ≡ n = same-by-test _ _ t in (omega arith, omega arith, ap new_pass (sym same) ∙ some-same _ _ (rw t at e))
    by-test more false t = let r = more (rw t at e) in let l = r.0 in let m = r.1 in (omega arith, omega arith, r.2)

pub without-new : (n k from : ℕ) → n < from → without n (new_passes k from) ≡ new_passes k from
without-new n zero from lt = refl
without-new n (suc k) from lt = rw (test-apart from n (λ e. omega arith)) (ap (λ (l : List Known). new_pass from ∷ l) (without-new n k (suc from) (omega arith)))

zero-suc : (n : ℕ) → 0 ≡ suc n → ⊥
zero-suc n e = omega arith

-- the table keeps the rule when it is made
pub opens : (start : Start) (ledger : Ledger) (bells : List ℕ) → Found (world_in start) ledger [] → Kept start (opening (0 ∷ 0 ∷ bells) (Some ledger ∷ []) (first_view start))
opens start ledger bells stands = record {
  r = [];
  owner = λ _. 0;
  lock = 0;
  most = omega arith;
  newest = tt;
  bells = bells;
  words = refl;
  home = (ledger, refl, stands);
  each = one-view;
}
  where
    fits : Fits start [] (λ _. 0) 0 0 (first_view start)
    fits = record {
      same_start = refl;
      passes = λ n p e. (let k = known-new 8 0 n p e in subst (λ (q : Known). PassFits [] (λ _. 0) 0 0 None n q) k.2
          (record { here = refl; cog = k.1; agrees = record { own = refl; seen = ([], refl); newest = λ _. refl }; locked = λ l. absurd (zero-suc n l) }));
      hold = λ n e. absurd (none-some n e);
    }

    one-view : (by : ℕ) (v : View) → get_elem? (first_view start ∷ []) by ≡ some v → v.live ≡ true → Fits start [] (λ _. 0) 0 by v
    one-view zero v e live = subst (λ (x : View). Fits start [] (λ _. 0) 0 0 x) (some-injective _ _ e) fits
    one-view (suc by) v e live = absurd (some-ne-none v (sym e))

-- the passes are parted one by one
new-next : (cog : ℕ) → cog < 8 → new_passes (8 - cog) cog ≡ new_pass cog ∷ new_passes (8 - (cog + 1)) (cog + 1)
new-next cog lt =
    let e : 8 - cog ≡ suc (8 - (cog + 1)) = omega arith in
    let f : suc cog ≡ cog + 1 = omega arith in
    ap (λ (k : ℕ). new_passes k cog) e ∙ ap (λ (k : ℕ). new_pass cog ∷ new_passes (8 - (cog + 1)) k) f

pub first-of-new : (start : Start) (cog : ℕ) (v : View) → cog < 8 → v ≡ with_passes (first_view start) (new_passes (8 - cog) cog) → pass_alone cog v ≡ with_passes (first_view start) (new_pass cog ∷ [])
first-of-new start cog v lt is = ap (pass_alone cog) (is ∙ ap (λ (l : List Known). with_passes (first_view start) l) (new-next cog lt)) ∙ one (new_passes (8 - (cog + 1)) (cog + 1))
  where
    one : (ps : List Known) → pass_alone cog (with_passes (first_view start) (new_pass cog ∷ ps)) ≡ with_passes (first_view start) (new_pass cog ∷ [])
    one ps = rw (test-same cog cog refl) refl

pub rest-of-new : (start : Start) (cog : ℕ) (v : View) → cog < 8 → v ≡ with_passes (first_view start) (new_passes (8 - cog) cog) → without_pass cog v ≡ with_passes (first_view start) (new_passes (8 - (cog + 1)) (cog + 1))
rest-of-new start cog v lt is =
    ap (without_pass cog) (is ∙ ap (λ (l : List Known). with_passes (first_view start) l) (new-next cog lt)) ∙ rest (new_passes (8 - (cog + 1)) (cog + 1)) ∙ ap (λ (l : List Known). with_passes (first_view start) l) (without-new cog (8 - (cog + 1)) (cog + 1) (omega arith))
  where
    rest : (ps : List Known) → without_pass cog (with_passes (first_view start) (new_pass cog ∷ ps)) ≡ with_passes (first_view start) (without cog ps)
    rest ps = rw (test-same cog cog refl) refl
