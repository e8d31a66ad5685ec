-- What is evaluated in the order of the components is right.
use Rattle.std.proofs.Common.{◌≡◌, ◌⊎◌, inl, inr, ℕ, zero, suc, ◌+◌, ◌*◌, ◌%◌, ◌^◌, ◌<◌, ◌≤◌, Bool, true, false, List, [], ◌∷◌, ◌++◌, length, set, get_or, Option, Some, None, IsSome, refl, sym, ap, ◌∙◌, subst, arith}
use Rattle.std.specs.Prelude.{Contains, MatchOption, if◌then◌else◌, option_map, nat_lt}
use Rattle.std.proofs.lemmas.Bool.{cases_Bool, cases_lt, cases_eq, ltb-true, ltb-false}
use Rattle.std.proofs.lemmas.List.{length-set, get_or-set_same, get_or-set_other, get_or_default}
use Rattle.std.proofs.Math.Logic.{⊎_elim}
use Rattle.p8_constants.specs.Graphs.{IsEdge}
use Rattle.p8_constants.proofs.Numbers.{edge_within}
use Rattle.p8_tree.specs.Sources.{Source}
use Rattle.p8_tree.specs.declared.faults.Fault.{Fault}
use Rattle.p8_tree.specs.Faults.{IsFirstFault}
use Rattle.p8_tree.proofs.Firsts.{IsFirstFault-along, IsFirstFault-earlier}
use Rattle.p8_fold.specs.declared.meanings.Meaning.{Meaning}
use Rattle.p8_fold.specs.declared.meanings.Meaning.TheVariants.{Value, Other}
use Rattle.p8_fold.specs.Meanings.{Setting}
use Rattle.p8_fold.specs.Values.{value, FaultIn}
use Rattle.p8_fold.proofs.Agreeing.{faults_alike}
use Rattle.p8_constants.specs.declared.rows.Move.{Move}
use Rattle.p8_constants.specs.declared.rows.Move.TheVariants.{Sets, Stays, Counts, Steps}
use Rattle.p8_constants.specs.Items.{Term, Sum, value_term, step_term, zero_sum, sum_of, definition, definitions}
use Rattle.p8_constants.specs.Mentions.{Mentions, mentioned}
use Rattle.p8_constants.specs.Constants as constants
use Rattle.p8_constants.specs.Constants.{Scope, scope_of, Means, from_outside, nothing, circular, constant, IsRightFor, right, Adds, further, Has, has, counted}
use Rattle.p8_constants.specs.Rows.{Row, rows_of, expression_at, row_at, counter_at, move_of, first_named, unless_given, constant_at, node_of, nodes_behind, IsPlan, meaning_in, moved, counter_value, IsPrepared, with_first, Joins, clean, refused, IsValue, IsBefore, IsFaultBefore, IsEvaluated}
use Rattle.p8_constants.proofs.Standing.{standing}
use Rattle.p8_constants.proofs.OneValue.{right_one}
use Rattle.p8_constants.proofs.Adding.{one_more}
use Rattle.p8_constants.proofs.Listing.{counter_start, counter_zero, after_sets, after_stays, after_counts, after_steps, move_cases, contains_here, contains_there, expression_within}
use Rattle.p8_constants.proofs.Graphs.{has_item, has_no_item, option_cases, IsListed, value_listed, step_listed, same_term, node_choice, mention_edge, edge_in, targets_behind, next_counter, lower_is_no_ring, ring_needs}

given_none : (given : Option Meaning) (k : Option ℕ) → IsSome given → unless_given given k ≡ None
given_none None k some = absurd (let no : IsSome {T = Meaning} None = some in cc)
given_none (Some m) k some = refl

some_meaning : (o : Option Meaning) (m : Meaning) → o ≡ Some m → IsSome o
some_meaning o m e = subst IsSome (sym e) refl

none_or_some : {A : Type 0} {o : Option Meaning} → o ≡ None → IsSome o → A
none_or_some e some = let no : IsSome {T = Meaning} None = subst IsSome e some in absurd (cc)

-- a value by its test
meaning_lower : (b : Bool) (v : ℕ) → b ≡ true → (if b then Value v else Other) ≡ Value v
meaning_lower true v e = refl
meaning_lower false v e = absurd cc

meaning_same : (b : Bool) (v : ℕ) → b ≡ false → (if b then Value v else Other) ≡ Other
meaning_same true v e = absurd cc
meaning_same false v e = refl

once : (v : ℕ) → v < 2 ^ 32 → (0 + (v + 0) % 2 ^ 32) % 2 ^ 32 ≡ v
once v lt = omega arith

counts_on : (v a w : ℕ) → v ≡ (a + w) % 2 ^ 32 → (v + 1) % 2 ^ 32 ≡ (a + 1 + w) % 2 ^ 32
counts_on v a w e = omega arith

steps_on : (v a w u : ℕ) → v ≡ (a + w) % 2 ^ 32 → (v + u) % 2 ^ 32 ≡ (a + (w + u) % 2 ^ 32) % 2 ^ 32
steps_on v a w u e = omega arith

module _ (outside : Setting) (file : Source) (index : List ℕ → Option ℕ) (numbers order : List ℕ) (plan : IsPlan outside (rows_of file) index numbers order) where
  abbrev rows : List Row
  rows = rows_of file

  abbrev c : Scope
  c = scope_of outside file

  abbrev number : ℕ → ℕ
  number a = get_or numbers a 0

  abbrev counter : ℕ → ℕ
  counter k = 2 * length rows + k

  -- ---- the order

  before_of : (x y place : ℕ) → place < length order → get_or order place 0 ≡ x → y < length numbers → (number y < number x) ⊎ ((number y ≡ number x) × (y < x)) → IsBefore order place y
  before_of x y place lt at within less =
      let (q, inside, is) = (plan.nodes y).1 within in
      let node : get_or order q 0 ≡ y = get_or_default order q 0 y inside ∙ is in
      elim (cases_lt q place) [
        | inl before ↦ (q, before, inside, node)
        | inr behind ↦ absurd (elim (plan.ordered place q behind inside) [
          | inl first ↦ elim less [
            | inl l ↦ omega (arith, ap number at, ap number node)
            | inr l ↦ omega (arith, ap number at, ap number node, l.0)
          ]
          | inr second ↦ elim less [
            | inl l ↦ omega (arith, ap number at, ap number node, second.0)
            | inr l ↦ omega (arith, l.1, second.1)
          ]
        ])
      ]

  -- an edge leads to what comes no later
  before_by_edge : (x y place : ℕ) → place < length order → get_or order place 0 ≡ x → y < length numbers → IsEdge plan.graph x y → y < x → IsBefore order place y
  before_by_edge x y place lt at within e less =
      before_of x y place lt at within (elim (cases_eq (number y) (number x)) [
        | inl same ↦ inr (same, less)
        | inr differs ↦ inl (omega (arith, plan.falls x y e))
      ])

  pub node_within : (i : ℕ) → i < length rows → node_of rows i < length numbers
  node_within i lt = elim (node_choice (row_at rows i).item.value (2 * i) (counter i)) [
    | inl (none, node) ↦ omega (arith, plan.size)
    | inr (e, some, node) ↦ omega (arith, plan.size)
  ]

  pub index_none : (n : List ℕ) → constant_at outside rows n ≡ None → index n ≡ None
  index_none n none = plan.index_is n ∙ ap (option_map (node_of rows)) none

  pub index_some : (n : List ℕ) (i : ℕ) → constant_at outside rows n ≡ Some i → index n ≡ Some (node_of rows i)
  index_some n i at = plan.index_is n ∙ ap (option_map (node_of rows)) at

  pub index_given : (n : List ℕ) → IsSome (outside.name n) → index n ≡ None
  index_given n some = index_none n (given_none (outside.name n) (first_named rows n) some)

  -- ---- values of names

  pub has_value : (values : List ℕ) (n : List ℕ) (i : ℕ) → constant_at outside rows n ≡ Some i → IsValue c rows values (node_of rows i) → Has c n (get_or values (node_of rows i) 0)
  has_value values n i at known =
      let item = has_item outside file n i at in
      elim (node_choice (row_at rows i).item.value (2 * i) (counter i)) [
        | inl (none, node) ↦
            let (w, adds, is) = known.counter i item.1 node in
            let d : definition (definitions file) n ≡ Some (counter_at rows i) = item.2 ∙ ap (λ o. Some (sum_of (counter_at rows i) i o)) none in
            subst (Has c n) (sym is) (has d adds)
        | inr (e, some, node) ↦
            let (s, fits, is, small) = known.expression (value_term i e) (value_listed rows i e some).at (sym node) in
            let one : Sum = record { whole = 0; terms = value_term i e ∷ [] } in
            let d : definition (definitions file) n ≡ Some one = item.2 ∙ ap (λ o. Some (sum_of (counter_at rows i) i o)) some in
            let v : counted (value s e) < 2 ^ 32 = omega (arith, is, small) in
            subst (Has c n) (once (counted (value s e)) v ∙ sym is) (has {sum = one} d (further {e = value_term i e} fits constants.none))
      ]

  -- ---- an expression

  module _ (place : ℕ) (values : List ℕ) (old : Setting) (fault : Option Fault) (k : IsEvaluated c rows order place values old fault) (lt : place < length order) where
    means_at : (t : Term) (s : Setting) → IsListed rows t → get_or order place 0 ≡ t.number → IsPrepared index numbers values t.number (mentioned t.tree) old s → (n : List ℕ) → Mentions t.tree n → Means c t n (s.name n)
    means_at t s l at prepared n mention = elim (option_cases (outside.name n)) [
      | inr (m, given) ↦
          let same : s.name n ≡ Some m = prepared.others n (index_given n (some_meaning (outside.name n) m given)) ∙ (k.table.given n (some_meaning (outside.name n) m given) ∙ given) in
          subst (Means c t n) (sym same) (from_outside given)
      | inl free ↦ elim (option_cases (constant_at outside rows n)) [
        | inl none ↦
            let same : s.name n ≡ None = prepared.others n (index_none n none) ∙ k.table.unknown n free none in
            subst (Means c t n) (sym same) (nothing free (has_no_item outside file n free none))
        | inr (i, item) ↦
            let node = node_of rows i in
            let entered : s.name n ≡ Some (meaning_in numbers values t.number node) = prepared.entered n node ((standing t.tree n).1 mention) (index_some n i item) in
            let lower_edge : IsEdge plan.graph t.number node = mention_edge outside file plan.graph plan.is_graph t n i l mention item in
            let item_is = has_item outside file n i item in
            elim (cases_Bool (nat_lt (number node) (number t.number))) [
              | inl less ↦
                  let lower : number node < number t.number = ltb-true (number node) (number t.number) less in
                  let same : s.name n ≡ Some (Value (get_or values node 0)) = entered ∙ ap Some (meaning_lower (nat_lt (number node) (number t.number)) (get_or values node 0) less) in
                  let known = k.known node (before_of t.number node place lt at (node_within i item_is.1) (inl lower)) in
                  subst (Means c t n) (sym same) (constant (lower_is_no_ring outside file plan.graph plan.is_graph number plan.falls n i t item lower) free (has_value values n i item known))
              | inr not_less ↦
                  let above : number t.number ≤ number node = ltb-false (number node) (number t.number) not_less in
                  let equal : number node ≡ number t.number = omega (arith, plan.falls t.number node lower_edge) in
                  let same : s.name n ≡ Some Other = entered ∙ ap Some (meaning_same (nat_lt (number node) (number t.number)) (get_or values node 0) not_less) in
                  let node_is : node < length plan.graph = omega (arith, node_within i item_is.1, plan.size, plan.is_graph.size) in
                  let path = ((plan.same node t.number node_is (edge_within plan.graph t.number node lower_edge)).0 equal).0 in
                  subst (Means c t n) (sym same) (circular (ring_needs outside file plan.graph plan.is_graph n i t l item path) free)
            ]
      ]
    ]

    right_at : (t : Term) (s : Setting) → IsListed rows t → get_or order place 0 ≡ t.number → IsPrepared index numbers values t.number (mentioned t.tree) old s → IsRightFor c t s
    right_at t s l at prepared =
        right (means_at t s l at prepared) (λ object name. prepared.constants object name ∙ k.table.constants object name) (prepared.here ∙ k.table.here)

    -- a place more
    one_place : (node : ℕ) → IsBefore order (place + 1) node → IsBefore order place node ⊎ (get_or order place 0 ≡ node)
    one_place node (q, less, inside, is) = elim (cases_lt q place) [
      | inl before ↦ inl (q, before, inside, is)
      | inr here ↦ let same : q ≡ place = omega arith in inr (ap (λ x. get_or order x 0) (sym same) ∙ is)
    ]

    still : (node : ℕ) → IsBefore order place node → IsBefore order (place + 1) node
    still node (q, less, inside, is) = (q, omega arith, inside, is)

    here : (node : ℕ) → get_or order place 0 ≡ node → IsBefore order (place + 1) node
    here node at = (place, omega arith, lt, at)

    kept : (values2 : List ℕ) (node : ℕ) → get_or values2 node 0 ≡ get_or values node 0 → IsValue c rows values node → IsValue c rows values2 node
    kept values2 node same known = record {
      expression = λ t l at. let (s, fits, is, small) = known.expression t l at in (s, fits, same ∙ is, omega (arith, same, small));
      counter = λ j within at. let (w, adds, is) = known.counter j within at in (w, adds, same ∙ is);
    }

    fault_before : (f : Fault) → IsFaultBefore c rows order place f → IsFaultBefore c rows order (place + 1) f
    fault_before f g = record { expression = g.expression; listed = g.listed; before = still g.expression.number g.before; setting = g.setting; right = g.right; fault = g.fault }

    module _ (t : Term) (s : Setting) (l : IsListed rows t) (at : get_or order place 0 ≡ t.number) (prepared : IsPrepared index numbers values t.number (mentioned t.tree) old s) where
      fault_now : (f : Fault) → IsFaultBefore c rows order place f ⊎ FaultIn s t.tree f → IsFaultBefore c rows order (place + 1) f
      fault_now f (inl g) = fault_before f g
      fault_now f (inr g) = record { expression = t; listed = l.at; before = here t.number at; setting = s; right = right_at t s l at prepared; fault = g }

      fault_was : (f : Fault) → IsFaultBefore c rows order (place + 1) f → IsFaultBefore c rows order place f ⊎ FaultIn s t.tree f
      fault_was f g = elim (one_place g.expression.number g.before) [
        | inl before ↦ inl (record { expression = g.expression; listed = g.listed; before = before; setting = g.setting; right = g.right; fault = g.fault })
        | inr now ↦
            let number_is : g.expression.number ≡ t.number = sym now ∙ at in
            let trees : Some g.expression.tree ≡ Some t.tree = sym g.listed ∙ (ap (expression_at rows) number_is ∙ l.at) in
            let tree : g.expression.tree ≡ t.tree = cc in
            let same : t ≡ g.expression = same_term t g.expression number_is tree in
            let fits = subst (λ e. IsRightFor c e g.setting) (sym same) g.right in
            let there = subst (λ e. FaultIn g.setting e f) tree g.fault in
            inr ((faults_alike s g.setting t.tree (right_one c t s g.setting (right_at t s l at prepared) fits) f).0 there)
      ]

      abbrev First : Option Fault → ℕ → Type 0
      First o p = MatchOption o ((f : Fault) → ¬ IsFaultBefore c rows order p f) (IsFirstFault (IsFaultBefore c rows order p))

      faults_clean : (o : Option Fault) → ((f : Fault) → ¬ FaultIn s t.tree f) → First o place → First o (place + 1)
      faults_clean None none first = λ f g. ⊎_elim (first f) (none f) (fault_was f g)
      faults_clean (Some f) none first = IsFirstFault-along fault_before (λ x g. ⊎_elim (λ a. a) (λ b. absurd (none x b)) (fault_was x g)) first

      faults_refused : (o : Option Fault) (f : Fault) → IsFirstFault (FaultIn s t.tree) f → First o place → First (Some (with_first o f)) (place + 1)
      faults_refused None f is first = IsFirstFault-along (λ x g. fault_now x (inr g)) (λ x g. ⊎_elim (λ a. absurd (first x a)) (λ b. b) (fault_was x g)) is
      faults_refused (Some g) f is first =
          IsFirstFault-along fault_now fault_was (IsFirstFault-earlier (IsFaultBefore c rows order place) (FaultIn s t.tree) g f first is)

      faults_joined : (fault2 : Option Fault) → Joins s t.tree fault fault2 → First fault2 (place + 1)
      faults_joined fault2 (clean none same) = subst (λ o. First o (place + 1)) (sym same) (faults_clean fault none k.faults)
      faults_joined fault2 (refused f is same) = subst (λ o. First o (place + 1)) (sym same) (faults_refused fault f is k.faults)

      new_value : (values2 : List ℕ) → values2 ≡ set values t.number (counted (value s t.tree)) → counted (value s t.tree) < 2 ^ 32 → IsValue c rows values2 t.number
      new_value values2 made small =
          let within : t.number < length values = omega (arith, expression_within rows t.number t.tree l.at, k.size) in
          let is : get_or values2 t.number 0 ≡ counted (value s t.tree) = ap (λ vs. get_or vs t.number 0) made ∙ get_or-set_same values t.number (counted (value s t.tree)) 0 within in
          record {
            expression = λ u listed same.
                let trees : Some u.tree ≡ Some t.tree = sym listed ∙ (ap (expression_at rows) same ∙ l.at) in
                let tree : u.tree ≡ t.tree = cc in
                let term : t ≡ u = same_term t u same tree in
                (s, subst (λ e. IsRightFor c e s) term (right_at t s l at prepared), is ∙ ap (λ e. counted (value s e)) (sym tree), omega (arith, is));
            counter = λ j within at2. absurd (omega (arith, expression_within rows t.number t.tree l.at));
          }

      pub evaluated_expression : (values2 : List ℕ) (fault2 : Option Fault) → values2 ≡ set values t.number (counted (value s t.tree)) → counted (value s t.tree) < 2 ^ 32 → Joins s t.tree fault fault2 → IsEvaluated c rows order (place + 1) values2 s fault2
      evaluated_expression values2 fault2 made small joins = record {
        size = ap length made ∙ (length-set values t.number (counted (value s t.tree)) ∙ k.size);
        known = λ node before. elim (cases_eq node t.number) [
          | inl same ↦ subst (IsValue c rows values2) (sym same) (new_value values2 made small)
          | inr differs ↦ elim (one_place node before) [
            | inl earlier_ ↦ kept values2 node (ap (λ vs. get_or vs node 0) made ∙ get_or-set_other values t.number node (counted (value s t.tree)) 0 differs) (k.known node earlier_)
            | inr now ↦ absurd (differs (sym now ∙ at))
          ]
        ];
        table = record {
          given = λ n some. prepared.others n (index_given n some) ∙ k.table.given n some;
          unknown = λ n free none. prepared.others n (index_none n none) ∙ k.table.unknown n free none;
          constants = λ object name. prepared.constants object name ∙ k.table.constants object name;
          here = prepared.here ∙ k.table.here;
        };
        faults = faults_joined fault2 joins;
      }

    -- ---- a node without an expression

    no_more : (node : ℕ) → get_or order place 0 ≡ node → ((t : Term) → expression_at rows t.number ≡ Some t.tree → ¬ (t.number ≡ node)) → (f : Fault) → IsFaultBefore c rows order (place + 1) f → IsFaultBefore c rows order place f
    no_more node at none f g = elim (one_place g.expression.number g.before) [
      | inl before ↦ record { expression = g.expression; listed = g.listed; before = before; setting = g.setting; right = g.right; fault = g.fault }
      | inr now ↦ absurd (none g.expression g.listed (sym now ∙ at))
    ]

    abbrev Firsts : Option Fault → ℕ → Type 0
    Firsts o p = MatchOption o ((f : Fault) → ¬ IsFaultBefore c rows order p f) (IsFirstFault (IsFaultBefore c rows order p))

    same_faults : (o : Option Fault) → ((f : Fault) → IsFaultBefore c rows order (place + 1) f → IsFaultBefore c rows order place f) → Firsts o place → Firsts o (place + 1)
    same_faults None back first = λ f g. first f (back f g)
    same_faults (Some f) back first = IsFirstFault-along fault_before back first

    pub evaluated_nothing : (node : ℕ) → get_or order place 0 ≡ node → node < 2 * length rows → expression_at rows node ≡ None → IsEvaluated c rows order (place + 1) values old fault
    evaluated_nothing node at low none =
        let never : (t : Term) → expression_at rows t.number ≡ Some t.tree → ¬ (t.number ≡ node) = λ t l same. let no : Some t.tree ≡ None = sym l ∙ (ap (expression_at rows) same ∙ none) in cc in
        record {
          size = k.size;
          known = λ x before. elim (one_place x before) [
            | inl earlier_ ↦ k.known x earlier_
            | inr now ↦ record {
              expression = λ t l same. absurd (never t l (same ∙ (sym now ∙ at)));
              counter = λ j within same. absurd (omega (arith, now, at));
            }
          ];
          table = k.table;
          faults = same_faults fault (no_more node at never) k.faults;
        }

    -- ---- a counter

    module _ (j : ℕ) (within : j < length rows) (at : get_or order place 0 ≡ counter j) where
      counted_right : (i : ℕ) → i ≡ j → (w : ℕ) × Adds c (counter_at rows i).terms w × (counter_value rows values i ≡ ((counter_at rows i).whole + w) % 2 ^ 32)
      counted_right zero same =
          let start = counter_zero rows 0 in
          (0, subst (λ x. Adds c x.terms 0) (sym start) constants.none, (let zero_is : 0 ≡ (0 + 0) % 2 ^ 32 = omega arith in zero_is ∙ ap (λ x. (x.whole + 0) % 2 ^ 32) (sym start)))
      counted_right (suc i) same = elim (cases_Bool (row_at rows (suc i)).first) [
        | inl first ↦
            let start = counter_start rows zero_sum 0 (suc i) (omega arith) first in
            let none : counter_value rows values (suc i) ≡ 0 = ap (λ b. if b then 0 else moved (length rows) values i (move_of (row_at rows i).item)) first in
            (0, subst (λ x. Adds c x.terms 0) (sym start) constants.none, none ∙ (let zero_is : 0 ≡ (0 + 0) % 2 ^ 32 = omega arith in zero_is ∙ ap (λ x. (x.whole + 0) % 2 ^ 32) (sym start)))
        | inr later ↦
            let lt2 : suc i < length rows = omega arith in
            let behind : (m : Move) → move_of (row_at rows i).item ≡ m → counter_value rows values (suc i) ≡ moved (length rows) values i m = λ m is. ap (λ b. if b then 0 else moved (length rows) values i (move_of (row_at rows i).item)) later ∙ ap (moved (length rows) values i) is in
            let next = next_counter outside file plan.graph plan.is_graph i lt2 later in
            let edges : (m : Move) (b : ℕ) → move_of (row_at rows i).item ≡ m → Contains (nodes_behind (length rows) i m) b → IsEdge plan.graph (counter (suc i)) b = λ m b is there. edge_in outside file plan.graph plan.is_graph (counter (suc i)) (nodes_behind (length rows) i m) b (targets_behind outside file plan.graph plan.is_graph i m lt2 later is) there in
            let here_at : get_or order place 0 ≡ counter (suc i) = at ∙ ap counter (sym same) in
            let known : (m : Move) (b : ℕ) → move_of (row_at rows i).item ≡ m → Contains (nodes_behind (length rows) i m) b → b < counter (suc i) → IsValue c rows values b = λ m b is there less. k.known b (before_by_edge (counter (suc i)) b place lt here_at (omega (arith, plan.size)) (edges m b is there) less) in
            elim (move_cases (move_of (row_at rows i).item)) [
              | inl m ↦
                  let (e, is, made) = after_sets (row_at rows i).item m in
                  let (s, fits, v, small) = (known Sets (2 * i) m (contains_here (2 * i) []) (omega arith)).expression (value_term i e) (value_listed rows i e is).at refl in
                  let one : Sum = record { whole = 0; terms = value_term i e ∷ [] } in
                  let sum : counter_at rows (suc i) ≡ one = next ∙ made (counter_at rows i) i in
                  let low : counted (value s e) < 2 ^ 32 = omega (arith, v, small) in (
                    (counted (value s e) + 0) % 2 ^ 32,
                    subst (λ x. Adds c x.terms ((counted (value s e) + 0) % 2 ^ 32)) (sym sum) (further {e = value_term i e} fits constants.none),
                    behind Sets m ∙ (v ∙ (sym (once (counted (value s e)) low) ∙ ap (λ x. (x.whole + (counted (value s e) + 0) % 2 ^ 32) % 2 ^ 32) (sym sum))),
                  )
              | inr (inl m) ↦
                  let (w, adds, v) = (known Stays (counter i) m (contains_here (counter i) []) (omega arith)).counter i (omega arith) refl in
                  let sum : counter_at rows (suc i) ≡ counter_at rows i = next ∙ after_stays (row_at rows i).item m (counter_at rows i) i in
                  (w, subst (λ x. Adds c x.terms w) (sym sum) adds, behind Stays m ∙ (v ∙ ap (λ x. (x.whole + w) % 2 ^ 32) (sym sum)))
              | inr (inr (inl m)) ↦
                  let (w, adds, v) = (known Counts (counter i) m (contains_here (counter i) []) (omega arith)).counter i (omega arith) refl in
                  let sum = next ∙ after_counts (row_at rows i).item m (counter_at rows i) i in
                  (w, subst (λ x. Adds c x.terms w) (sym sum) adds, behind Counts m ∙ (counts_on (get_or values (counter i) 0) (counter_at rows i).whole w v ∙ ap (λ x. (x.whole + w) % 2 ^ 32) (sym sum)))
              | inr (inr (inr m)) ↦
                  let (e, is, made) = after_steps (row_at rows i).item m in
                  let (w, adds, v) = (known Steps (counter i) m (contains_here (counter i) ((2 * i + 1) ∷ [])) (omega arith)).counter i (omega arith) refl in
                  let (s, fits, u, small) = (known Steps (2 * i + 1) m (contains_there (counter i) ((2 * i + 1) ∷ []) (2 * i + 1) (contains_here (2 * i + 1) [])) (omega arith)).expression (step_term i e) (step_listed rows i e is).at refl in
                  let sum = next ∙ made (counter_at rows i) i in
                  let more : Adds c ((counter_at rows i).terms ++ step_term i e ∷ []) ((w + counted (value s e)) % 2 ^ 32) = one_more c (counter_at rows i).terms (step_term i e) s w adds fits in (
                    (w + counted (value s e)) % 2 ^ 32,
                    subst (λ x. Adds c x.terms ((w + counted (value s e)) % 2 ^ 32)) (sym sum) more,
                    behind Steps m ∙ (ap (λ n. (get_or values (counter i) 0 + n) % 2 ^ 32) u ∙ (steps_on (get_or values (counter i) 0) (counter_at rows i).whole w (counted (value s e)) v ∙ ap (λ x. (x.whole + (w + counted (value s e)) % 2 ^ 32) % 2 ^ 32) (sym sum))),
                  )
            ]
      ]

      pub evaluated_counter : (values2 : List ℕ) → values2 ≡ set values (counter j) (counter_value rows values j) → IsEvaluated c rows order (place + 1) values2 old fault
      evaluated_counter values2 made =
          let inside : counter j < length values = omega (arith, k.size) in
          let is : get_or values2 (counter j) 0 ≡ counter_value rows values j = ap (λ vs. get_or vs (counter j) 0) made ∙ get_or-set_same values (counter j) (counter_value rows values j) 0 inside in
          let never : (t : Term) → expression_at rows t.number ≡ Some t.tree → ¬ (t.number ≡ counter j) = λ t l same. omega (arith, expression_within rows t.number t.tree l) in
          let now : IsValue c rows values2 (counter j) = record {
            expression = λ t l same. absurd (never t l same);
            counter = λ i lt2 same. let index_is : i ≡ j = omega arith in let (w, adds, v) = counted_right i index_is in (w, adds, is ∙ (ap (counter_value rows values) (sym index_is) ∙ v));
          } in
          record {
            size = ap length made ∙ (length-set values (counter j) (counter_value rows values j) ∙ k.size);
            known = λ node before. elim (cases_eq node (counter j)) [
              | inl same ↦ subst (IsValue c rows values2) (sym same) now
              | inr differs ↦ elim (one_place node before) [
                | inl earlier_ ↦ kept values2 node (ap (λ vs. get_or vs node 0) made ∙ get_or-set_other values (counter j) node (counter_value rows values j) 0 differs) (k.known node earlier_)
                | inr here_ ↦ absurd (differs (sym here_ ∙ at))
              ]
            ];
            table = k.table;
            faults = same_faults fault (no_more (counter j) at never) k.faults;
          }
