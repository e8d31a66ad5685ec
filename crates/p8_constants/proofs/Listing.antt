-- The items of a file in one row: their definitions, their counters and their expressions.
use Rattle.std.proofs.Common.{◌≡◌, ◌⊎◌, inl, inr, ℕ, zero, suc, ◌+◌, ◌*◌, ◌/◌, ◌%◌, ◌<◌, Bool, true, false, List, [], ◌∷◌, ◌++◌, length, get_or, Option, Some, None, refl, sym, ap, ◌∙◌, subst, arith, add-zero}
use Rattle.std.specs.Prelude.{Contains, if◌then◌else◌, cond, option_map}
use Rattle.std.specs.List.{filter_map, cons_option}
use Rattle.std.specs.Str.{bytes_eq}
use Rattle.std.proofs.lemmas.Slice.Eq.{bytes_eq-Decides}
use Rattle.std.proofs.lemmas.List.Elements.{Contains-append_right, Contains-append_cases}
use Rattle.p8_tree.specs.Expressions.{Tree}
use Rattle.p8_tree.specs.Sources as sources
use Rattle.p8_tree.specs.Sources.{Constant, Source, Con}
use Rattle.p8_constants.specs.declared.rows.Move.{Move}
use Rattle.p8_constants.specs.declared.rows.Move.TheVariants.{Sets, Stays, Counts, Steps}
use Rattle.p8_constants.specs.Items.{Term, Sum, value_term, step_term, zero_sum, sum_of, stepped, after, with_name, named_from, definitions_from, definition, with_term, terms_in, expressions_from}
use Rattle.p8_constants.specs.Rows.{Row, rows_in, rows_of, expression_at, row_at, begun, counters, set_by, moved_by, move_of, is_named, first_named}

-- ---- definitions

abbrev pub named : Sum → ℕ → List Row → List (List ℕ × Sum)
named c k [] = []
named c k (r ∷ rs) = with_name r.item.name (sum_of (begun r.first c) k r.item.value) (named (after (begun r.first c) k r.item) (k + 1) rs)

with_name-append : (n : Option (List ℕ)) (s : Sum) (xs ys : List (List ℕ × Sum)) → with_name n s xs ++ ys ≡ with_name n s (xs ++ ys)
with_name-append None s xs ys = refl
with_name-append (Some n) s xs ys = refl

shift : (k n : ℕ) → k + suc n ≡ k + 1 + n
shift k n = omega arith

block_named : (bs : Source) → ((c : Sum) (k : ℕ) → definitions_from k bs ≡ named c k (rows_of bs)) → (xs : List Constant) (c : Sum) (k : ℕ) → named_from c k xs ++ definitions_from (k + length xs) bs ≡ named c k (rows_in false xs ++ rows_of bs)
block_named bs rest [] c k = ap (λ n. definitions_from n bs) (add-zero k) ∙ rest c k
block_named bs rest (x ∷ xs) c k =
    with_name-append x.name (sum_of c k x.value) (named_from (after c k x) (k + 1) xs) (definitions_from (k + suc (length xs)) bs)
    ∙ (ap (λ n. with_name x.name (sum_of c k x.value) (named_from (after c k x) (k + 1) xs ++ definitions_from n bs)) (shift k (length xs))
    ∙ ap (with_name x.name (sum_of c k x.value)) (block_named bs rest xs (after c k x) (k + 1)))

pub definitions_named : (file : Source) (c : Sum) (k : ℕ) → definitions_from k file ≡ named c k (rows_of file)
definitions_named [] c k = refl
definitions_named (Con [] ∷ bs) c k = ap (λ n. definitions_from n bs) (add-zero k) ∙ definitions_named bs c k
definitions_named (Con (x ∷ xs) ∷ bs) c k =
    with_name-append x.name (sum_of zero_sum k x.value) (named_from (after zero_sum k x) (k + 1) xs) (definitions_from (k + suc (length xs)) bs)
    ∙ (ap (λ n. with_name x.name (sum_of zero_sum k x.value) (named_from (after zero_sum k x) (k + 1) xs ++ definitions_from n bs)) (shift k (length xs))
    ∙ ap (with_name x.name (sum_of zero_sum k x.value)) (block_named bs (definitions_named bs) xs (after zero_sum k x) (k + 1)))
definitions_named (sources.Var x ∷ bs) c k = definitions_named bs c k
definitions_named (sources.Obj x ∷ bs) c k = definitions_named bs c k
definitions_named (sources.Method x ∷ bs) c k = definitions_named bs c k
definitions_named (sources.Dat x ∷ bs) c k = definitions_named bs c k

some_is : {X : Type 0} {x y : X} → Some x ≡ Some y → x ≡ y
some_is e = cc

under_suc : (below : Option ℕ) (i : ℕ) → option_map suc below ≡ Some i → (j : ℕ) × (i ≡ suc j) × (below ≡ Some j)
under_suc None i e = absurd cc
under_suc (Some j) i e = (j, sym (some_is e), refl)

-- one item more at the front of those with a name
test_step : (b : Bool) (s : Sum) (d : Option Sum) (below : Option ℕ) (i : ℕ) → (if b then Some 0 else option_map suc below) ≡ Some i → ((i ≡ 0) × (cond b (Some s) d ≡ Some s)) ⊎ ((j : ℕ) × (i ≡ suc j) × (below ≡ Some j) × (cond b (Some s) d ≡ d))
test_step true s d below i e = inl (sym (some_is e), refl)
test_step false s d below i e = let (j, at, is) = under_suc below i e in inr (j, at, is, refl)

name_step : (n : Option (List ℕ)) (s : Sum) (rest : List (List ℕ × Sum)) (m : List ℕ) (below : Option ℕ) (i : ℕ) → (if is_named m n then Some 0 else option_map suc below) ≡ Some i → ((i ≡ 0) × (definition (with_name n s rest) m ≡ Some s)) ⊎ ((j : ℕ) × (i ≡ suc j) × (below ≡ Some j) × (definition (with_name n s rest) m ≡ definition rest m))
name_step None s rest m below i e = let (j, at, is) = under_suc below i e in inr (j, at, is, refl)
name_step (Some n) s rest m below i e = test_step (bytes_eq m n) s (definition rest m) below i e

pub first_defined : (rows : List Row) (c : Sum) (k : ℕ) (m : List ℕ) (i : ℕ) → first_named rows m ≡ Some i → (i < length rows) × (definition (named c k rows) m ≡ Some (sum_of (get_or (counters c k rows) i zero_sum) (k + i) (row_at rows i).item.value))
first_defined [] c k m i e = absurd cc
first_defined (r ∷ rs) c k m i e = elim (name_step r.item.name (sum_of (begun r.first c) k r.item.value) (named (after (begun r.first c) k r.item) (k + 1) rs) m (first_named rs m) i e) [
  | inl (at, is) ↦ (omega arith, is ∙ rw (at, add-zero) refl)
  | inr (j, at, below, is) ↦
      let more = first_defined rs (after (begun r.first c) k r.item) (k + 1) m j below in
      let numbers : k + 1 + j ≡ k + i = omega arith in
      (omega (arith, more.0), is ∙ (more.1 ∙ rw (at, sym (shift k j)) refl))
]

none_step : (b : Bool) (s : Sum) (d : Option Sum) (below : Option ℕ) → (if b then Some 0 else option_map suc below) ≡ None → (below ≡ None) × (cond b (Some s) d ≡ d)
none_step true s d below e = absurd cc
none_step false s d None e = (refl, refl)
none_step false s d (Some j) e = absurd cc

no_name_step : (n : Option (List ℕ)) (s : Sum) (rest : List (List ℕ × Sum)) (m : List ℕ) (below : Option ℕ) → (if is_named m n then Some 0 else option_map suc below) ≡ None → (below ≡ None) × (definition (with_name n s rest) m ≡ definition rest m)
no_name_step None s rest m below e = none_step false s (definition rest m) below e
no_name_step (Some n) s rest m below e = none_step (bytes_eq m n) s (definition rest m) below e

pub none_defined : (rows : List Row) (c : Sum) (k : ℕ) (m : List ℕ) → first_named rows m ≡ None → definition (named c k rows) m ≡ None
none_defined [] c k m e = refl
none_defined (r ∷ rs) c k m e =
    let step = no_name_step r.item.name (sum_of (begun r.first c) k r.item.value) (named (after (begun r.first c) k r.item) (k + 1) rs) m (first_named rs m) e in
    step.1 ∙ none_defined rs (after (begun r.first c) k r.item) (k + 1) m step.0

-- ---- counters

begun_first : (b : Bool) (c : Sum) → b ≡ true → begun b c ≡ zero_sum
begun_first true c e = refl
begun_first false c e = absurd cc

begun_later : (b : Bool) (c : Sum) → b ≡ false → begun b c ≡ c
begun_later true c e = absurd cc
begun_later false c e = refl

begun_zero : (b : Bool) → begun b zero_sum ≡ zero_sum
begun_zero true = refl
begun_zero false = refl

pub counter_start : (rows : List Row) (c : Sum) (k i : ℕ) → i < length rows → (row_at rows i).first ≡ true → get_or (counters c k rows) i zero_sum ≡ zero_sum
counter_start [] c k i lt e = absurd (omega arith)
counter_start (r ∷ rs) c k zero lt e = begun_first r.first c e
counter_start (r ∷ rs) c k (suc i) lt e = counter_start rs (after (begun r.first c) k r.item) (k + 1) i (omega arith) e

pub counter_zero : (rows : List Row) (k : ℕ) → get_or (counters zero_sum k rows) 0 zero_sum ≡ zero_sum
counter_zero [] k = refl
counter_zero (r ∷ rs) k = begun_zero r.first

pub counter_next : (rows : List Row) (c : Sum) (k i : ℕ) → suc i < length rows → (row_at rows (suc i)).first ≡ false → get_or (counters c k rows) (suc i) zero_sum ≡ after (get_or (counters c k rows) i zero_sum) (k + i) (row_at rows i).item
counter_next [] c k i lt e = absurd (omega arith)
counter_next (r ∷ []) c k i lt e = absurd (omega arith)
counter_next (r ∷ s ∷ rs) c k zero lt e = begun_later s.first (after (begun r.first c) k r.item) e ∙ ap (λ n. after (begun r.first c) n r.item) (sym (add-zero k))
counter_next (r ∷ s ∷ rs) c k (suc i) lt e =
    counter_next (s ∷ rs) (after (begun r.first c) k r.item) (k + 1) i (omega arith) e
    ∙ ap (λ n. after (get_or (counters (after (begun r.first c) k r.item) (k + 1) (s ∷ rs)) i zero_sum) n (row_at (s ∷ rs) i).item) (sym (shift k i))

-- ---- how an item moves the counter

abbrev after_by : Sum → ℕ → Bool → Option Tree → Option Tree → Sum
after_by c k sets value step = if sets then sum_of c k value else stepped c k value step

abbrev move_by : Bool → Option Tree → Option Tree → Move
move_by sets value step = if sets then set_by value else moved_by value step

sets_by : (sets : Bool) (value step : Option Tree) → move_by sets value step ≡ Sets → (e : Tree) × (value ≡ Some e) × ((c : Sum) (k : ℕ) → after_by c k sets value step ≡ record { whole = 0; terms = value_term k e ∷ [] })
sets_by true None step m = absurd cc
sets_by true (Some e) step m = (e, refl, λ c k. refl)
sets_by false None None m = absurd cc
sets_by false None (Some e) m = absurd cc
sets_by false (Some e) step m = absurd cc

stays_by : (sets : Bool) (value step : Option Tree) → move_by sets value step ≡ Stays → (c : Sum) (k : ℕ) → after_by c k sets value step ≡ c
stays_by true None step m c k = refl
stays_by true (Some e) step m c k = absurd cc
stays_by false None None m c k = absurd cc
stays_by false None (Some e) m c k = absurd cc
stays_by false (Some e) step m c k = refl

counts_by : (sets : Bool) (value step : Option Tree) → move_by sets value step ≡ Counts → (c : Sum) (k : ℕ) → after_by c k sets value step ≡ record c { whole = c.whole + 1 }
counts_by true None step m c k = absurd cc
counts_by true (Some e) step m c k = absurd cc
counts_by false None None m c k = refl
counts_by false None (Some e) m c k = absurd cc
counts_by false (Some e) step m c k = absurd cc

steps_by : (sets : Bool) (value step : Option Tree) → move_by sets value step ≡ Steps → (e : Tree) × (step ≡ Some e) × ((c : Sum) (k : ℕ) → after_by c k sets value step ≡ record c { terms = c.terms ++ step_term k e ∷ [] })
steps_by true None step m = absurd cc
steps_by true (Some e) step m = absurd cc
steps_by false None None m = absurd cc
steps_by false None (Some e) m = (e, refl, λ c k. refl)
steps_by false (Some e) step m = absurd cc

pub after_sets : (x : Constant) → move_of x ≡ Sets → (e : Tree) × (x.value ≡ Some e) × ((c : Sum) (k : ℕ) → after c k x ≡ record { whole = 0; terms = value_term k e ∷ [] })
after_sets x m = sets_by x.sets x.value x.step m

pub after_stays : (x : Constant) → move_of x ≡ Stays → (c : Sum) (k : ℕ) → after c k x ≡ c
after_stays x m = stays_by x.sets x.value x.step m

pub after_counts : (x : Constant) → move_of x ≡ Counts → (c : Sum) (k : ℕ) → after c k x ≡ record c { whole = c.whole + 1 }
after_counts x m = counts_by x.sets x.value x.step m

pub after_steps : (x : Constant) → move_of x ≡ Steps → (e : Tree) × (x.step ≡ Some e) × ((c : Sum) (k : ℕ) → after c k x ≡ record c { terms = c.terms ++ step_term k e ∷ [] })
after_steps x m = steps_by x.sets x.value x.step m

pub move_cases : (m : Move) → (m ≡ Sets) ⊎ ((m ≡ Stays) ⊎ ((m ≡ Counts) ⊎ (m ≡ Steps)))
move_cases Sets = inl refl
move_cases Stays = inr (inl refl)
move_cases Counts = inr (inr (inl refl))
move_cases Steps = inr (inr (inr refl))

-- ---- elements

pub contains_one : {X : Type 0} (x y : X) → Contains (x ∷ []) y → y ≡ x
contains_one x y (i, lt, is) = let first : i ≡ 0 = omega arith in sym (rw first at is)

pub contains_cons : {X : Type 0} (x : X) (xs : List X) (y : X) → Contains (x ∷ xs) y → (y ≡ x) ⊎ Contains xs y
contains_cons x xs y c = elim (Contains-append_cases (x ∷ []) xs y c) [ inl one ↦ inl (contains_one x y one) | inr more ↦ inr more ]

pub contains_here : {X : Type 0} (x : X) (xs : List X) → Contains (x ∷ xs) x
contains_here x xs = (0, omega arith, refl)

pub contains_there : {X : Type 0} (x : X) (xs : List X) (y : X) → Contains xs y → Contains (x ∷ xs) y
contains_there x xs y c = Contains-append_right (x ∷ []) xs y c

pub contains_none : {X : Type 0} (y : X) → ¬ Contains [] y
contains_none y (i, lt, is) = omega arith

-- ---- expressions

abbrev pub listed : ℕ → List Row → List Term
listed k [] = []
listed k (r ∷ rs) = with_term (value_term k) r.item.value (with_term (step_term k) r.item.step (listed (k + 1) rs))

with_term-append : (f : Tree → Term) (o : Option Tree) (xs ys : List Term) → with_term f o xs ++ ys ≡ with_term f o (xs ++ ys)
with_term-append f None xs ys = refl
with_term-append f (Some e) xs ys = refl

block_listed : (bs : Source) → ((k : ℕ) → expressions_from k bs ≡ listed k (rows_of bs)) → (b : Bool) (xs : List Constant) (k : ℕ) → terms_in k xs ++ expressions_from (k + length xs) bs ≡ listed k (rows_in b xs ++ rows_of bs)
block_listed bs rest b [] k = ap (λ n. expressions_from n bs) (add-zero k) ∙ rest k
block_listed bs rest b (x ∷ xs) k =
    with_term-append (value_term k) x.value (with_term (step_term k) x.step (terms_in (k + 1) xs)) (expressions_from (k + suc (length xs)) bs)
    ∙ ap (with_term (value_term k) x.value) (with_term-append (step_term k) x.step (terms_in (k + 1) xs) (expressions_from (k + suc (length xs)) bs)
    ∙ ap (with_term (step_term k) x.step) (ap (λ n. terms_in (k + 1) xs ++ expressions_from n bs) (shift k (length xs)) ∙ block_listed bs rest false xs (k + 1)))

pub expressions_listed : (file : Source) (k : ℕ) → expressions_from k file ≡ listed k (rows_of file)
expressions_listed [] k = refl
expressions_listed (Con xs ∷ bs) k = block_listed bs (expressions_listed bs) true xs k
expressions_listed (sources.Var x ∷ bs) k = expressions_listed bs k
expressions_listed (sources.Obj x ∷ bs) k = expressions_listed bs k
expressions_listed (sources.Method x ∷ bs) k = expressions_listed bs k
expressions_listed (sources.Dat x ∷ bs) k = expressions_listed bs k

with_in : (f : Tree → Term) (o : Option Tree) (xs : List Term) (t : Term) → Contains (with_term f o xs) t → ((e : Tree) × (o ≡ Some e) × (t ≡ f e)) ⊎ Contains xs t
with_in f None xs t c = inr c
with_in f (Some e) xs t c = elim (contains_cons (f e) xs t c) [ inl same ↦ inl (e, refl, same) | inr more ↦ inr more ]

with_here : (f : Tree → Term) (o : Option Tree) (xs : List Term) (e : Tree) → o ≡ Some e → Contains (with_term f o xs) (f e)
with_here f None xs e is = absurd cc
with_here f (Some d) xs e is = let same : d ≡ e = some_is is in subst (λ x. Contains (f d ∷ xs) (f x)) same (contains_here (f d) xs)

with_there : (f : Tree → Term) (o : Option Tree) (xs : List Term) (t : Term) → Contains xs t → Contains (with_term f o xs) t
with_there f None xs t c = c
with_there f (Some d) xs t c = contains_there (f d) xs t c

pub in_listed : (rows : List Row) (k : ℕ) (t : Term) → Contains (listed k rows) t → (j : ℕ) × (t.number ≡ 2 * k + j) × (expression_at rows j ≡ Some t.tree)
in_listed [] k t c = absurd (contains_none t c)
in_listed (r ∷ rs) k t c = elim (with_in (value_term k) r.item.value (with_term (step_term k) r.item.step (listed (k + 1) rs)) t c) [
  | inl (e, is, same) ↦ (0, ap (λ t. t.number) same ∙ sym (add-zero (2 * k)), is ∙ ap (λ t. Some t.tree) (sym same))
  | inr more ↦ elim (with_in (step_term k) r.item.step (listed (k + 1) rs) t more) [
    | inl (e, is, same) ↦ (1, ap (λ t. t.number) same, is ∙ ap (λ t. Some t.tree) (sym same))
    | inr rest ↦ let (j, at, is) = in_listed rs (k + 1) t rest in (suc (suc j), omega arith, is)
  ]
]

further : (k j : ℕ) → 2 * (k + 1) + j ≡ 2 * k + suc (suc j)
further k j = omega arith

pub listed_in : (rows : List Row) (k j : ℕ) (e : Tree) → expression_at rows j ≡ Some e → Contains (listed k rows) (record { number = 2 * k + j; tree = e })
listed_in [] k j e is = absurd cc
listed_in (r ∷ rs) k zero e is =
    let at : Contains (listed k (r ∷ rs)) (value_term k e) = with_here (value_term k) r.item.value (with_term (step_term k) r.item.step (listed (k + 1) rs)) e is in
    subst (λ n. let t : Term = record { number = n; tree = e } in Contains (listed k (r ∷ rs)) t) (sym (add-zero (2 * k))) at
listed_in (r ∷ rs) k (suc zero) e is =
    with_there (value_term k) r.item.value (with_term (step_term k) r.item.step (listed (k + 1) rs)) (step_term k e) (with_here (step_term k) r.item.step (listed (k + 1) rs) e is)
listed_in (r ∷ rs) k (suc (suc j)) e is =
    let rest : Contains (listed (k + 1) rs) (record { number = 2 * (k + 1) + j; tree = e }) = listed_in rs (k + 1) j e is in
    let at : Contains (listed (k + 1) rs) (record { number = 2 * k + suc (suc j); tree = e }) = subst (λ n. let t : Term = record { number = n; tree = e } in Contains (listed (k + 1) rs) t) (further k j) rest in
    with_there (value_term k) r.item.value (with_term (step_term k) r.item.step (listed (k + 1) rs)) (record { number = 2 * k + suc (suc j); tree = e }) (with_there (step_term k) r.item.step (listed (k + 1) rs) (record { number = 2 * k + suc (suc j); tree = e }) at)

-- an expression's number by its item's
pub value_at : (rows : List Row) (k : ℕ) → expression_at rows (2 * k) ≡ (row_at rows k).item.value
value_at [] k = refl
value_at (r ∷ rs) zero = refl
value_at (r ∷ rs) (suc k) = let e : 2 * suc k ≡ suc (suc (2 * k)) = omega arith in ap (expression_at (r ∷ rs)) e ∙ value_at rs k

pub step_at : (rows : List Row) (k : ℕ) → expression_at rows (2 * k + 1) ≡ (row_at rows k).item.step
step_at [] k = refl
step_at (r ∷ rs) zero = refl
step_at (r ∷ rs) (suc k) = let e : 2 * suc k + 1 ≡ suc (suc (2 * k + 1)) = omega arith in ap (expression_at (r ∷ rs)) e ∙ step_at rs k

pub expression_within : (rows : List Row) (n : ℕ) (e : Tree) → expression_at rows n ≡ Some e → n < 2 * length rows
expression_within [] n e is = absurd cc
expression_within (r ∷ rs) zero e is = omega arith
expression_within (r ∷ rs) (suc zero) e is = omega arith
expression_within (r ∷ rs) (suc (suc n)) e is = omega (arith, expression_within rs n e is)

-- ---- filters

added_in : {Y : Type 0} (o : Option Y) (ys : List Y) (y : Y) → Contains (cons_option o ys) y → (o ≡ Some y) ⊎ Contains ys y
added_in None ys y c = inr c
added_in (Some x) ys y c = elim (contains_cons x ys y c) [ inl same ↦ inl (ap Some (sym same)) | inr more ↦ inr more ]

added_here : {Y : Type 0} (o : Option Y) (ys : List Y) (y : Y) → o ≡ Some y → Contains (cons_option o ys) y
added_here None ys y e = absurd cc
added_here (Some x) ys y e = let same : x ≡ y = some_is e in subst (Contains (x ∷ ys)) same (contains_here x ys)

added_there : {Y : Type 0} (o : Option Y) (ys : List Y) (y : Y) → Contains ys y → Contains (cons_option o ys) y
added_there None ys y c = c
added_there (Some x) ys y c = contains_there x ys y c

pub from_filter : {X Y : Type 0} (h : X → Option Y) (xs : List X) (y : Y) → Contains (filter_map h xs) y → (x : X) × Contains xs x × (h x ≡ Some y)
from_filter h [] y c = absurd (contains_none y c)
from_filter h (x ∷ xs) y c = elim (added_in (h x) (filter_map h xs) y c) [
  | inl e ↦ (x, contains_here x xs, e)
  | inr more ↦ let (z, at, e) = from_filter h xs y more in (z, contains_there x xs z at, e)
]

pub to_filter : {X Y : Type 0} (h : X → Option Y) (xs : List X) (x : X) (y : Y) → Contains xs x → h x ≡ Some y → Contains (filter_map h xs) y
to_filter h [] x y c e = absurd (contains_none x c)
to_filter h (z ∷ xs) x y c e = elim (contains_cons z xs x c) [
  | inl same ↦ added_here (h z) (filter_map h xs) y (ap h (sym same) ∙ e)
  | inr more ↦ added_there (h z) (filter_map h xs) y (to_filter h xs x y more e)
]

-- ---- names

named_by : (b : Bool) (below : Option ℕ) (i : ℕ) → (if b then Some 0 else option_map suc below) ≡ Some i → ((i ≡ 0) × (b ≡ true)) ⊎ ((j : ℕ) × (i ≡ suc j) × (below ≡ Some j))
named_by true below i e = inl (sym (some_is e), refl)
named_by false below i e = inr (under_suc below i e)

name_tested : (o : Option (List ℕ)) (n : List ℕ) → is_named n o ≡ true → o ≡ Some n
name_tested None n e = absurd cc
name_tested (Some m) n e = ap Some (sym ((bytes_eq-Decides n m).0 e))

-- the first item of a name has it
pub named_at : (rows : List Row) (n : List ℕ) (i : ℕ) → first_named rows n ≡ Some i → (row_at rows i).item.name ≡ Some n
named_at [] n i e = absurd cc
named_at (r ∷ rs) n i e = elim (named_by (is_named n r.item.name) (first_named rs n) i e) [
  | inl (at, same) ↦ ap (λ k. (row_at (r ∷ rs) k).item.name) at ∙ name_tested r.item.name n same
  | inr (j, at, below) ↦ ap (λ k. (row_at (r ∷ rs) k).item.name) at ∙ named_at rs n j below
]

-- an expression by the half of its number
pub even_is : (rows : List Row) (n : ℕ) → n % 2 ≡ 0 → expression_at rows n ≡ (row_at rows (n / 2)).item.value
even_is rows n e = let same : n ≡ 2 * (n / 2) = omega arith in ap (expression_at rows) same ∙ value_at rows (n / 2)

pub odd_is : (rows : List Row) (n : ℕ) → ¬ (n % 2 ≡ 0) → expression_at rows n ≡ (row_at rows (n / 2)).item.step
odd_is rows n e = let same : n ≡ 2 * (n / 2) + 1 = omega arith in ap (expression_at rows) same ∙ step_at rows (n / 2)
