-- What the graph of a file's constants says of which expression needs which.
use Rattle.std.proofs.Common.{◌≡◌, ◌⊎◌, inl, inr, ℕ, zero, suc, ◌+◌, ◌*◌, ◌<◌, ◌≤◌, false, List, [], ◌∷◌, ◌++◌, length, Option, Some, None, refl, sym, ap, ◌∙◌, subst, arith, zero-add}
use Rattle.std.specs.Prelude.{Contains, if◌then◌else◌, is_some, option_map}
use Rattle.std.specs.List.{filter_map}
use Rattle.std.proofs.lemmas.Bool.{cases_Bool}
use Rattle.std.proofs.lemmas.List.Elements.{Contains-append_cases, Contains-append_left, Contains-push}
use Rattle.p8_constants.specs.Graphs.{targets_of, IsEdge, Reaches, itself, along}
use Rattle.p8_constants.proofs.Paths.{edge}
use Rattle.p8_constants.proofs.Numbers.{falls_along}
use Rattle.p8_tree.specs.Expressions.{Tree}
use Rattle.p8_tree.specs.Sources.{Source}
use Rattle.p8_fold.specs.declared.meanings.Meaning.{Meaning}
use Rattle.p8_fold.specs.Meanings.{Setting}
use Rattle.p8_constants.specs.declared.rows.Move.{Move}
use Rattle.p8_constants.specs.declared.rows.Move.TheVariants.{Sets, Stays, Counts, Steps}
use Rattle.p8_constants.specs.Items.{Term, Sum, value_term, step_term, zero_sum, sum_of, after, definition, definitions, expressions}
use Rattle.p8_constants.specs.Mentions.{Mentions, mentioned}
use Rattle.p8_constants.specs.Constants as constants
use Rattle.p8_constants.specs.Constants.{Scope, scope_of, Needs, through, IsLayered}
use Rattle.p8_constants.specs.Rows.{Row, rows_of, expression_at, row_at, counter_at, move_of, first_named, unless_given, constant_at, node_of, nodes_by, find_in, nodes_behind, IsGraph}
use Rattle.p8_constants.proofs.Standing.{standing}
use Rattle.p8_constants.proofs.Ordering.{lower_not_circular}
use Rattle.p8_constants.proofs.Listing.{definitions_named, first_defined, none_defined, counter_start, counter_zero, counter_next, after_sets, after_stays, after_counts, after_steps, move_cases, contains_one, contains_here, contains_there, contains_none, listed, expressions_listed, in_listed, listed_in, value_at, step_at, expression_within, from_filter, to_filter}

-- ---- constants by their items

abbrev pub sum_at : List Row → ℕ → Sum
sum_at rows i = sum_of (counter_at rows i) i (row_at rows i).item.value

pub free_and_named : (given : Option Meaning) (k : Option ℕ) (i : ℕ) → unless_given given k ≡ Some i → (given ≡ None) × (k ≡ Some i)
free_and_named None k i e = (refl, e)
free_and_named (Some m) k i e = absurd cc

not_named : (given : Option Meaning) (k : Option ℕ) → given ≡ None → unless_given given k ≡ None → k ≡ None
not_named None k free e = e
not_named (Some m) k free e = absurd cc

pub has_item : (outside : Setting) (file : Source) (n : List ℕ) (i : ℕ) → constant_at outside (rows_of file) n ≡ Some i → (outside.name n ≡ None) × (i < length (rows_of file)) × (definition (definitions file) n ≡ Some (sum_at (rows_of file) i))
has_item outside file n i e =
    let (free, at) = free_and_named (outside.name n) (first_named (rows_of file) n) i e in
    let found = first_defined (rows_of file) zero_sum 0 n i at in
    (free, found.0, ap (λ ds. definition ds n) (definitions_named file zero_sum 0) ∙ (found.1 ∙ ap (λ k. Some (sum_of (counter_at (rows_of file) i) k (row_at (rows_of file) i).item.value)) (zero-add i)))

pub has_no_item : (outside : Setting) (file : Source) (n : List ℕ) → outside.name n ≡ None → constant_at outside (rows_of file) n ≡ None → definition (definitions file) n ≡ None
has_no_item outside file n free e =
    ap (λ ds. definition ds n) (definitions_named file zero_sum 0) ∙ none_defined (rows_of file) zero_sum 0 n (not_named (outside.name n) (first_named (rows_of file) n) free e)

-- a number of an option
pub option_cases : {X : Type 0} (o : Option X) → (o ≡ None) ⊎ ((x : X) × (o ≡ Some x))
option_cases None = inl refl
option_cases (Some x) = inr (x, refl)

pub item_of : (outside : Setting) (file : Source) (n : List ℕ) (sum : Sum) → outside.name n ≡ None → definition (definitions file) n ≡ Some sum → (i : ℕ) × (constant_at outside (rows_of file) n ≡ Some i)
item_of outside file n sum free d = elim (option_cases (constant_at outside (rows_of file) n)) [
  | inl none ↦ absurd (let no = has_no_item outside file n free none in cc)
  | inr found ↦ found
]

-- ---- expressions by their numbers

pub record IsListed (rows : List Row) (t : Term) : Type 0 where
  pub at : expression_at rows t.number ≡ Some t.tree

pub listed_terms : (file : Source) (t : Term) → Contains (expressions file) t → IsListed (rows_of file) t
listed_terms file t c =
    let (j, number, at) = in_listed (rows_of file) 0 t (subst (λ ts. Contains ts t) (expressions_listed file 0) c) in
    let same : j ≡ t.number = omega arith in
    record { at = subst (λ n. expression_at (rows_of file) n ≡ Some t.tree) same at }

pub terms_listed : (file : Source) (t : Term) → IsListed (rows_of file) t → Contains (expressions file) t
terms_listed file t l =
    let same : 2 * 0 + t.number ≡ t.number = omega arith in
    let at : Contains (listed 0 (rows_of file)) (record { number = 2 * 0 + t.number; tree = t.tree }) = listed_in (rows_of file) 0 t.number t.tree l.at in
    let at' : Contains (listed 0 (rows_of file)) t = subst (λ n. let u : Term = record { number = n; tree = t.tree } in Contains (listed 0 (rows_of file)) u) same at in
    subst (λ ts. Contains ts t) (sym (expressions_listed file 0)) at'

pub value_listed : (rows : List Row) (k : ℕ) (e : Tree) → (row_at rows k).item.value ≡ Some e → IsListed rows (value_term k e)
value_listed rows k e is = record { at = value_at rows k ∙ is }

pub step_listed : (rows : List Row) (k : ℕ) (e : Tree) → (row_at rows k).item.step ≡ Some e → IsListed rows (step_term k e)
step_listed rows k e is = record { at = step_at rows k ∙ is }

pub same_term : (e t : Term) → t.number ≡ e.number → t.tree ≡ e.tree → e ≡ t
same_term e t n d = sym (ap (λ k. let u : Term = record { number = k; tree = t.tree } in u) n ∙ ap (λ d. let u : Term = record { number = e.number; tree = d } in u) d)

-- ---- the node of an item

pub node_choice : (o : Option Tree) (a b : ℕ) → ((o ≡ None) × ((if is_some o then a else b) ≡ b)) ⊎ ((e : Tree) × (o ≡ Some e) × ((if is_some o then a else b) ≡ a))
node_choice None a b = inl (refl, refl)
node_choice (Some e) a b = inr (e, refl, refl)

module _ (outside : Setting) (file : Source) (g : List (List ℕ)) (graph : IsGraph outside (rows_of file) g) where
  abbrev rows : List Row
  rows = rows_of file

  abbrev c : Scope
  c = scope_of outside file

  abbrev counter : ℕ → ℕ
  counter k = 2 * length rows + k

  pub edge_in : (a : ℕ) (ts : List ℕ) (b : ℕ) → targets_of g a ≡ ts → Contains ts b → IsEdge g a b
  edge_in a ts b is at = record { target = subst (λ ts. Contains ts b) (sym is) at }

  edge_of : (a : ℕ) (ts : List ℕ) (b : ℕ) → targets_of g a ≡ ts → IsEdge g a b → Contains ts b
  edge_of a ts b is e = subst (λ ts. Contains ts b) is e.target

  -- ---- edges of expressions

  targets_at : (t : Term) → IsListed rows t → targets_of g t.number ≡ filter_map (find_in outside rows) (mentioned t.tree)
  targets_at t l = graph.expressions t.number (expression_within rows t.number t.tree l.at) ∙ ap (nodes_by (find_in outside rows)) l.at

  pub mention_edge : (t : Term) (n : List ℕ) (i : ℕ) → IsListed rows t → Mentions t.tree n → constant_at outside rows n ≡ Some i → IsEdge g t.number (node_of rows i)
  mention_edge t n i l m at =
      edge_in t.number (filter_map (find_in outside rows) (mentioned t.tree)) (node_of rows i) (targets_at t l)
      (to_filter (find_in outside rows) (mentioned t.tree) n (node_of rows i) ((standing t.tree n).1 m) (ap (option_map (node_of rows)) at))

  item_from : (o : Option ℕ) (b : ℕ) → option_map (node_of rows) o ≡ Some b → (i : ℕ) × (o ≡ Some i) × (b ≡ node_of rows i)
  item_from None b e = absurd cc
  item_from (Some i) b e = (i, refl, let same : node_of rows i ≡ b = cc in sym same)

  edge_mention : (t : Term) (b : ℕ) → IsListed rows t → IsEdge g t.number b → (n : List ℕ) × Mentions t.tree n × ((i : ℕ) × (constant_at outside rows n ≡ Some i) × (b ≡ node_of rows i))
  edge_mention t b l e =
      let (n, at, is) = from_filter (find_in outside rows) (mentioned t.tree) b (edge_of t.number (filter_map (find_in outside rows) (mentioned t.tree)) b (targets_at t l) e) in
      (n, (standing t.tree n).0 at, item_from (constant_at outside rows n) b is)

  -- ---- edges of counters

  pub targets_behind : (k : ℕ) (m : Move) → suc k < length rows → (row_at rows (suc k)).first ≡ false → move_of (row_at rows k).item ≡ m → targets_of g (counter (suc k)) ≡ nodes_behind (length rows) k m
  targets_behind k m lt later is =
      graph.counters (suc k) lt ∙ (ap (λ b. if b then [] else nodes_behind (length rows) k (move_of (row_at rows k).item)) later ∙ ap (nodes_behind (length rows) k) is)

  -- the counter as it comes to the next item of a block
  pub next_counter : (k : ℕ) → suc k < length rows → (row_at rows (suc k)).first ≡ false → counter_at rows (suc k) ≡ after (counter_at rows k) k (row_at rows k).item
  next_counter k lt later = counter_next rows zero_sum 0 k lt later ∙ ap (λ n. after (counter_at rows k) n (row_at rows k).item) (zero-add k)

  -- a term is listed, and its counter leads to it
  pub counter_terms : (k : ℕ) → k < length rows → (t : Term) → Contains (counter_at rows k).terms t → IsListed rows t × Reaches g (counter k) t.number
  counter_terms zero lt t at = absurd (contains_none t (subst (λ s. Contains s.terms t) (counter_zero rows 0) at))
  counter_terms (suc k) lt t at = elim (cases_Bool (row_at rows (suc k)).first) [
    | inl first ↦ absurd (contains_none t (subst (λ s. Contains s.terms t) (counter_start rows zero_sum 0 (suc k) lt first) at))
    | inr later ↦ elim (move_cases (move_of (row_at rows k).item)) [
      | inl m ↦
          let (e, is, made) = after_sets (row_at rows k).item m in
          let in_one : Contains (value_term k e ∷ []) t = subst (λ s. Contains s.terms t) (next_counter k lt later ∙ made (counter_at rows k) k) at in
          let same = contains_one (value_term k e) t in_one in (
            subst (IsListed rows) (sym same) (value_listed rows k e is),
            subst (λ t. Reaches g (counter (suc k)) t.number) (sym same) (edge (edge_in (counter (suc k)) (nodes_behind (length rows) k Sets) (2 * k) (targets_behind k Sets lt later m) (contains_here (2 * k) []))),
          )
      | inr (inl m) ↦
          let before = counter_terms k (omega arith) t (subst (λ s. Contains s.terms t) (next_counter k lt later ∙ after_stays (row_at rows k).item m (counter_at rows k) k) at) in
          (before.0, along (edge_in (counter (suc k)) (nodes_behind (length rows) k Stays) (counter k) (targets_behind k Stays lt later m) (contains_here (counter k) [])) before.1)
      | inr (inr (inl m)) ↦
          let before = counter_terms k (omega arith) t (subst (λ s. Contains s.terms t) (next_counter k lt later ∙ after_counts (row_at rows k).item m (counter_at rows k) k) at) in
          (before.0, along (edge_in (counter (suc k)) (nodes_behind (length rows) k Counts) (counter k) (targets_behind k Counts lt later m) (contains_here (counter k) [])) before.1)
      | inr (inr (inr m)) ↦
          let (e, is, made) = after_steps (row_at rows k).item m in
          let in_more : Contains ((counter_at rows k).terms ++ step_term k e ∷ []) t = subst (λ s. Contains s.terms t) (next_counter k lt later ∙ made (counter_at rows k) k) at in
          elim (Contains-append_cases (counter_at rows k).terms (step_term k e ∷ []) t in_more) [
            | inl old ↦
                let before = counter_terms k (omega arith) t old in
                (before.0, along (edge_in (counter (suc k)) (nodes_behind (length rows) k Steps) (counter k) (targets_behind k Steps lt later m) (contains_here (counter k) ((2 * k + 1) ∷ []))) before.1)
            | inr new ↦
                let same = contains_one (step_term k e) t new in (
                  subst (IsListed rows) (sym same) (step_listed rows k e is),
                  subst (λ t. Reaches g (counter (suc k)) t.number) (sym same) (edge (edge_in (counter (suc k)) (nodes_behind (length rows) k Steps) (2 * k + 1) (targets_behind k Steps lt later m) (contains_there (counter k) ((2 * k + 1) ∷ []) (2 * k + 1) (contains_here (2 * k + 1) [])))),
                )
          ]
    ]
  ]

  -- the same of the sum that an item stands for
  pub item_terms : (i : ℕ) → i < length rows → (t : Term) → Contains (sum_at rows i).terms t → IsListed rows t × Reaches g (node_of rows i) t.number
  item_terms i lt t at = elim (node_choice (row_at rows i).item.value (2 * i) (counter i)) [
    | inl (none, node) ↦
        let found = counter_terms i lt t (subst (λ o. Contains (sum_of (counter_at rows i) i o).terms t) none at) in
        (found.0, subst (λ n. Reaches g n t.number) (sym node) found.1)
    | inr (e, some, node) ↦
        let in_one : Contains (value_term i e ∷ []) t = subst (λ o. Contains (sum_of (counter_at rows i) i o).terms t) some at in
        let same = contains_one (value_term i e) t in_one in
        (subst (IsListed rows) (sym same) (value_listed rows i e some), subst (λ t. Reaches g (node_of rows i) t.number) (sym same) (subst (λ n. Reaches g n (2 * i)) (sym node) itself))
  ]

  -- ---- layers

  module _ (number : ℕ → ℕ) (falls : (a b : ℕ) → IsEdge g a b → number b ≤ number a) where
    item_terms_below : (i : ℕ) → i < length rows → (t : Term) → Contains (sum_at rows i).terms t → IsListed rows t × (number t.number ≤ number (node_of rows i))
    item_terms_below i lt t at = let found = item_terms i lt t at in (found.0, falls_along g number falls found.1)

    terms_of : (n : List ℕ) (i : ℕ) (sum : Sum) (t : Term) → constant_at outside rows n ≡ Some i → definition c.constants n ≡ Some sum → Contains sum.terms t → IsListed rows t × (number t.number ≤ number (node_of rows i))
    terms_of n i sum t at d term =
        let item = has_item outside file n i at in
        let same : sum ≡ sum_at rows i = let e : Some sum ≡ Some (sum_at rows i) = sym d ∙ item.2 in cc in
        item_terms_below i item.1 t (subst (λ s. Contains s.terms t) same term)

    layered : IsLayered c (IsListed rows) (λ t. number t.number)
    layered = record {
      lower = λ e f m sum among mention free d term.
          let (i, at) = item_of outside file m sum free d in
          let found = terms_of m i sum f at d term in
          (found.0, omega (arith, found.1, falls e.number (node_of rows i) (mention_edge e m i among mention at)));
    }

    -- a constant of a lower layer isn't circular
    pub lower_is_no_ring : (n : List ℕ) (i : ℕ) (e : Term) → constant_at outside rows n ≡ Some i → number (node_of rows i) < number e.number → ¬ Needs c n e
    lower_is_no_ring n i e at less =
        lower_not_circular c (IsListed rows) (λ t. number t.number) layered n e
        (λ sum f free d term. let found = terms_of n i sum f at d term in (found.0, omega (arith, found.1)))

  -- ---- what leads to an expression needs it

  -- an expression that needs e, or is it
  abbrev Leads : Term → Term → Type 0
  Leads e t = (e ≡ t) ⊎ ((m : List ℕ) × Mentions t.tree m × Needs c m e)

  record From (e : Term) (x : ℕ) : Type 0 where
    expression : (t : Term) → IsListed rows t → t.number ≡ x → Leads e t
    counted_from : (k : ℕ) → k < length rows → x ≡ counter k → (t : Term) × Contains (counter_at rows k).terms t × Leads e t

  from_terms : (n : List ℕ) (sum : Sum) (e t : Term) → c.outside.name n ≡ None → definition c.constants n ≡ Some sum → Contains sum.terms t → Leads e t → Needs c n e
  from_terms n sum e t free d at (inl same) = constants.itself free d (subst (Contains sum.terms) (sym same) at)
  from_terms n sum e t free d at (inr (m, mention, second)) = through (constants.itself free d at) mention second

  from_item : (n : List ℕ) (i : ℕ) (e : Term) → constant_at outside rows n ≡ Some i → From e (node_of rows i) → Needs c n e
  from_item n i e at from =
      let item = has_item outside file n i at in
      elim (node_choice (row_at rows i).item.value (2 * i) (counter i)) [
        | inl (none, node) ↦
            let (t, term, leads) = from.counted_from i item.1 node in
            from_terms n (sum_at rows i) e t item.0 item.2 (subst (λ o. Contains (sum_of (counter_at rows i) i o).terms t) (sym none) term) leads
        | inr (d, some, node) ↦
            let leads = from.expression (value_term i d) (value_listed rows i d some) (sym node) in
            from_terms n (sum_at rows i) e (value_term i d) item.0 item.2 (subst (λ o. Contains (sum_of (counter_at rows i) i o).terms (value_term i d)) (sym some) (contains_here (value_term i d) [])) leads
      ]

  from_counter : (e : Term) (b k : ℕ) → k < length rows → IsEdge g (counter k) b → From e b → (t : Term) × Contains (counter_at rows k).terms t × Leads e t
  from_counter e b zero lt edge_ from = absurd (contains_none b (edge_of (counter 0) [] b (graph.counters 0 lt) edge_))
  from_counter e b (suc k) lt edge_ from = elim (cases_Bool (row_at rows (suc k)).first) [
    | inl first ↦ absurd (contains_none b (edge_of (counter (suc k)) [] b (graph.counters (suc k) lt ∙ ap (λ b. if b then [] else nodes_behind (length rows) k (move_of (row_at rows k).item)) first) edge_))
    | inr later ↦ elim (move_cases (move_of (row_at rows k).item)) [
      | inl m ↦
          let (d, is, made) = after_sets (row_at rows k).item m in
          let at = contains_one (2 * k) b (edge_of (counter (suc k)) (nodes_behind (length rows) k Sets) b (targets_behind k Sets lt later m) edge_) in
          (value_term k d, subst (λ s. Contains s.terms (value_term k d)) (sym (next_counter k lt later ∙ made (counter_at rows k) k)) (contains_here (value_term k d) []), from.expression (value_term k d) (value_listed rows k d is) (sym at))
      | inr (inl m) ↦
          let at = contains_one (counter k) b (edge_of (counter (suc k)) (nodes_behind (length rows) k Stays) b (targets_behind k Stays lt later m) edge_) in
          let (t, term, leads) = from.counted_from k (omega arith) at in
          (t, subst (λ s. Contains s.terms t) (sym (next_counter k lt later ∙ after_stays (row_at rows k).item m (counter_at rows k) k)) term, leads)
      | inr (inr (inl m)) ↦
          let at = contains_one (counter k) b (edge_of (counter (suc k)) (nodes_behind (length rows) k Counts) b (targets_behind k Counts lt later m) edge_) in
          let (t, term, leads) = from.counted_from k (omega arith) at in
          (t, subst (λ s. Contains s.terms t) (sym (next_counter k lt later ∙ after_counts (row_at rows k).item m (counter_at rows k) k)) term, leads)
      | inr (inr (inr m)) ↦
          let (d, is, made) = after_steps (row_at rows k).item m in
          elim (Contains-append_cases (counter k ∷ []) ((2 * k + 1) ∷ []) b (edge_of (counter (suc k)) (nodes_behind (length rows) k Steps) b (targets_behind k Steps lt later m) edge_)) [
            | inl old ↦
                let (t, term, leads) = from.counted_from k (omega arith) (contains_one (counter k) b old) in
                (t, subst (λ s. Contains s.terms t) (sym (next_counter k lt later ∙ made (counter_at rows k) k)) (Contains-append_left (counter_at rows k).terms (step_term k d ∷ []) t term), leads)
            | inr new ↦
                (step_term k d, subst (λ s. Contains s.terms (step_term k d)) (sym (next_counter k lt later ∙ made (counter_at rows k) k)) (Contains-push (counter_at rows k).terms (step_term k d)), from.expression (step_term k d) (step_listed rows k d is) (sym (contains_one (2 * k + 1) b new)))
          ]
    ]
  ]

  from_along : (e : Term) (y : ℕ) → IsListed rows e → y ≡ e.number → {x : ℕ} → Reaches g x y → From e x
  from_along e y l is itself = record {
    expression = λ t among same.
        let number : t.number ≡ e.number = same ∙ is in
        let trees : Some t.tree ≡ Some e.tree = sym among.at ∙ (ap (expression_at rows) number ∙ l.at) in
        let tree : t.tree ≡ e.tree = cc in inl (same_term e t number tree);
    counted_from = λ k lt at. absurd (omega (arith, expression_within rows e.number e.tree l.at));
  }
  from_along e y l is {x = x} (along {b = b} edge_ more) =
      let from = from_along e y l is more in
      record {
        expression = λ t among same.
            let (n, mention, (i, at, node)) = edge_mention t b among (subst (λ a. IsEdge g a b) (sym same) edge_) in
            inr (n, mention, from_item n i e at (subst (From e) node from));
        counted_from = λ k lt at. from_counter e b k lt (subst (λ a. IsEdge g a b) at edge_) from;
      }

  -- a constant that leads to the expression in which it stands is circular there
  pub ring_needs : (n : List ℕ) (i : ℕ) (e : Term) → IsListed rows e → constant_at outside rows n ≡ Some i → Reaches g (node_of rows i) e.number → Needs c n e
  ring_needs n i e l at path = from_item n i e at (from_along e e.number l refl path)
