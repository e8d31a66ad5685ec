-- No file leads back to itself: so no way through objects inside objects is as long as the row of files, and an object's variables are its own and
-- those of the objects inside it.
use Rattle.std.proofs.Common.{◌≡◌, inl, inr, ℕ, zero, suc, ◌+◌, ◌<◌, ◌≤◌, Bool, true, false, List, [], ◌∷◌, length, map, get_or, set, replicate, slice_get, slice_index, Some, refl, sym, ap, ap₂, ◌∙◌, subst, arith}
use Rattle.std.proofs.lemmas.Bool.{cases_Bool, cases_eq, cases_lt}
use Rattle.std.proofs.lemmas.List.{length-set, length-replicate, get_or-replicate, get_or_past, get_or-set_other}
use Rattle.std.proofs.lemmas.Option.{same_Some, none-some}
use Rattle.p8_image.specs.declared.parts.ObjectPart.{ObjectPart}
use Rattle.p8_image.specs.Layout.{total, own_variables, variables_within, variables_of}

-- ---- sums

at-map : {A : Type 0} (f : A → ℕ) (xs : List A) (i : ℕ) (x : A) → slice_get xs i ≡ Some x → slice_index (map f xs) i ≡ f x
at-map f [] i x is = absurd (none-some x is)
at-map f (y ∷ xs) zero x is = ap f (same_Some y x is)
at-map f (y ∷ xs) (suc i) x is = at-map f xs i x is

same-total : (f g : ℕ → ℕ) (xs : List ℕ) → ((i x : ℕ) → slice_get xs i ≡ Some x → f x ≡ g x) → total f xs ≡ total g xs
same-total f g [] each = refl
same-total f g (x ∷ xs) each = ap₂ (λ (a b : ℕ). a + b) (each 0 x refl) (same-total f g xs (λ i. each (suc i)))

-- ---- marks at numbers

abbrev mark : List Bool → ℕ → Bool
mark marks i = get_or marks i false

-- how many have none
abbrev left : List Bool → ℕ
left [] = 0
left (true ∷ marks) = left marks
left (false ∷ marks) = 1 + left marks

one-less : (marks : List Bool) (i : ℕ) → i < length marks → mark marks i ≡ false → left (set marks i true) + 1 ≡ left marks
one-less [] i lt free = absurd (omega arith)
one-less (true ∷ marks) zero lt free = absurd cc
one-less (false ∷ marks) zero lt free = omega arith
one-less (true ∷ marks) (suc i) lt free = one-less marks i (omega arith) free
one-less (false ∷ marks) (suc i) lt free = omega (arith, one-less marks i (omega arith) free)

all-left : (n : ℕ) → left (replicate n false) ≡ n
all-left zero = refl
all-left (suc n) = omega (arith, all-left n)

element : {X : Type 0} (xs : List X) (i : ℕ) → i < length xs → (x : X) × (slice_get xs i ≡ Some x)
element [] i less = absurd (omega (arith, less))
element (x ∷ xs) zero less = (x, refl)
element (x ∷ xs) (suc i) less = element xs i (omega (arith, less))

module _ (objects : List ObjectPart) (Mentions Leads : ℕ → ℕ → Type 0)
    (there : (i : ℕ) → Leads i i)
    (leads-on : (i j k : ℕ) → Leads i j → Mentions j k → Leads i k)
    (no_ring : (i j : ℕ) → Mentions i j → Leads j i → ⊥)
    (inner : (f i g : ℕ) (object : ObjectPart) → slice_get objects f ≡ Some object → slice_get object.instances i ≡ Some g → Mentions f g × (g < length objects)) where
  -- one leads to another, by one mention at least
  record LeadsFrom (one other : ℕ) : Type 0 where
    between : ℕ
    first : Mentions one between
    rest : Leads between other

  abbrev AllLead : List Bool → ℕ → Type 0
  AllLead marks i = (p : ℕ) → mark marks p ≡ true → LeadsFrom p i

  is-free : (marks : List Bool) (i : ℕ) → AllLead marks i → mark marks i ≡ false
  is-free marks i back = elim (cases_Bool (mark marks i)) [
    | inl marked ↦ absurd (let way = back i marked in no_ring i way.between way.first way.rest)
    | inr free ↦ free
  ]

  back-to : (marks : List Bool) (i j : ℕ) → AllLead marks i → Mentions i j → AllLead (set marks i true) j
  back-to marks i j back mention p marked = elim (cases_eq p i) [
    | inl same ↦ record { between = j; first = subst (λ k. Mentions k j) (sym same) mention; rest = there j }
    | inr differs ↦
        let way = back p (sym (get_or-set_other marks i p true false differs) ∙ marked) in
        record { between = way.between; first = way.first; rest = leads-on way.between i j way.rest mention }
  ]

  none-marked : (p : ℕ) → mark (replicate (length objects) false) p ≡ false
  none-marked p = elim (cases_lt p (length objects)) [
    | inl low ↦ get_or-replicate (length objects) p false false low
    | inr past ↦ get_or_past (replicate (length objects) false) p false (omega (arith, length-replicate (length objects) false))
  ]

  no-marks : (i : ℕ) → AllLead (replicate (length objects) false) i
  no-marks i p marked = absurd (let clear = none-marked p in cc)

  -- ---- variables

  abbrev within : (depth i : ℕ) → ℕ
  within depth i = slice_index (variables_within depth objects) i

  deeper : (depth i : ℕ) (object : ObjectPart) → slice_get objects i ≡ Some object → within (suc depth) i ≡ own_variables object + total (within depth) object.instances
  unfolding variables_within
  deeper depth i object is = at-map (λ (o : ObjectPart). own_variables o + total (slice_index (variables_within depth objects)) o.instances) objects i object is

  -- one depth more adds nothing where so few are left
  settled : (depth : ℕ) (marks : List Bool) (i : ℕ) → i < length objects → length marks ≡ length objects → AllLead marks i → left marks ≤ depth → within depth i ≡ within (suc depth) i
  settled zero marks i low long back few = absurd (let less = one-less marks i (omega (arith, low, long)) (is-free marks i back) in omega (arith, less, few))
  settled (suc depth) marks i low long back few =
      let object = element objects i low in
      let less = one-less marks i (omega (arith, low, long)) (is-free marks i back) in
      deeper depth i object.0 object.1
      ∙ ap (λ (n : ℕ). own_variables object.0 + n) (same-total (within depth) (within (suc depth)) object.0.instances (λ k j at.
      let m = inner i k j object.0 object.1 at in
      settled depth (set marks i true) j m.1 (length-set marks i true ∙ long) (back-to marks i j back m.0) (omega (arith, less, few))))
      ∙ sym (deeper (suc depth) i object.0 object.1)

  -- an object's variables are its own and those of the objects inside it
  pub own-and-inner : (i : ℕ) (object : ObjectPart) → slice_get objects i ≡ Some object → i < length objects
      → slice_index (variables_of objects) i ≡ own_variables object + total (slice_index (variables_of objects)) object.instances
  own-and-inner i object at low =
      settled (length objects) (replicate (length objects) false) i low (length-replicate (length objects) false) (no-marks i) (let all = all-left (length objects) in omega (arith, all))
      ∙ deeper (length objects) i object at

  -- ---- ways

  -- a way of so many steps to an object
  pub record Way (i steps : ℕ) : Type 0 where
    marks : List Bool
    size : length marks ≡ length objects
    rest : left marks + steps ≡ length objects
    back : AllLead marks i

  pub begin : (i : ℕ) → Way i 0
  begin i = record {
    marks = replicate (length objects) false;
    size = length-replicate (length objects) false;
    rest = let all = all-left (length objects) in omega (arith, all);
    back = no-marks i;
  }

  pub step : (i j place steps : ℕ) (object : ObjectPart) → Way i steps → i < length objects → slice_get objects i ≡ Some object → slice_get object.instances place ≡ Some j → Way j (suc steps)
  step i j place steps object way low is inside =
      let m = inner i place j object is inside in
      let less = one-less way.marks i (omega (arith, low, way.size)) (is-free way.marks i way.back) in
      record {
        marks = set way.marks i true;
        size = length-set way.marks i true ∙ way.size;
        rest = omega (arith, less, way.rest);
        back = back-to way.marks i j way.back m.0;
      }

  pub short : (i steps : ℕ) → Way i steps → i < length objects → steps < length objects
  short i steps way low =
      let less = one-less way.marks i (omega (arith, low, way.size)) (is-free way.marks i way.back) in
      omega (arith, less, way.rest)
