-- The steps of the evaluation, as the code takes them.
use Rattle.std.proofs.Common.{◌≡◌, ℕ, ◌+◌, ◌*◌, ◌-◌, ◌^◌, ◌<◌, ◌≤◌, Bool, List, length, set, get_or, Option, Some, None, IsSome, sym, ap, ◌∙◌, subst, arith}
use Rattle.std.specs.Prelude.{MatchOption, Result, Ok, Err, OnOk}
use Rattle.std.proofs.lemmas.List.{length-map}
use Rattle.std.proofs.lemmas.List.Elements.{Contains-get_or}
use Rattle.p8_tree.specs.declared.sources.ConItem.{ConItem}
use Rattle.p8_tree.specs.Expressions.{Tree}
use Rattle.p8_tree.specs.Sources.{Source}
use Rattle.p8_tree.specs.declared.faults.Fault.{Fault}
use Rattle.p8_tree.specs.Faults.{IsFirstFault}
use Rattle.p8_fold.specs.declared.meanings.Meaning.TheVariants.{Value}
use Rattle.p8_fold.specs.Meanings.{Setting}
use Rattle.p8_fold.specs.Values.{value}
use Rattle.p8_constants.specs.Items.{Term, definition, definitions}
use Rattle.p8_constants.specs.Mentions.{mentioned}
use Rattle.p8_constants.specs.Constants.{scope_of, Has, IsConstant, IsConstantFault, counted}
use Rattle.p8_constants.specs.Rows.{row_from, rows_from, rows_of, expression_at, counter_value, IsPlan, IsPrepared, Joins, IsEvaluated, IsEntered, IsSized}
use Rattle.p8_constants.proofs.Graphs.{IsListed}
use Rattle.p8_constants.proofs.Evaluating.{evaluated_expression, evaluated_nothing, evaluated_counter}
use Rattle.p8_constants.proofs.Finding as finding

pub together : {T E : Type 0} {P Q R S X : Type 0} (r : Result T E) → (P → Q → R → S → X) → OnOk r P → OnOk r Q → OnOk r R → OnOk r S → OnOk r X
together (Ok x) f p q r s = f p q r s
together (Err e) f p q r s = tt

module _ (outside : Setting) (file : Source) (raw : List (ConItem × Bool)) (index : List ℕ → Option ℕ) (numbers order : List ℕ) (same : rows_from raw ≡ rows_of file) (plan : IsPlan outside (rows_from raw) index numbers order) where
  of_file : IsPlan outside (rows_of file) index numbers order
  of_file = subst (λ rs. IsPlan outside rs index numbers order) same plan

  count : length raw ≡ length (rows_of file)
  count = sym (length-map raw row_from) ∙ ap length same

  module _ (place : ℕ) (values values2 : List ℕ) (old new : Setting) (fault fault2 : Option Fault) (k : IsEvaluated (scope_of outside file) (rows_from raw) order place values old fault) (lt : place < length order) where
    k' : IsEvaluated (scope_of outside file) (rows_of file) order place values old fault
    k' = subst (λ rs. IsEvaluated (scope_of outside file) rs order place values old fault) same k

    back : (p : ℕ) (vs : List ℕ) (s : Setting) (o : Option Fault) → IsEvaluated (scope_of outside file) (rows_of file) order p vs s o → IsEvaluated (scope_of outside file) (rows_from raw) order p vs s o
    back p vs s o h = subst (λ rs. IsEvaluated (scope_of outside file) rs order p vs s o) (sym same) h

    pub counter_step : (node j : ℕ) → get_or order place 0 ≡ node → 2 * length raw ≤ node → j ≡ node - 2 * length raw → values2 ≡ set values (2 * length raw + j) (counter_value (rows_from raw) values j) → new ≡ old → fault2 ≡ fault → IsEvaluated (scope_of outside file) (rows_from raw) order (place + 1) values2 new fault2
    counter_step node j at high is made es ef =
        let low : node < length numbers = omega (arith, at, (plan.nodes (get_or order place 0)).0 (Contains-get_or order place 0 lt)) in
        let within : j < length (rows_of file) = omega (arith, of_file.size, count) in
        let place_is : get_or order place 0 ≡ 2 * length (rows_of file) + j = omega (arith, count) in
        let written : values2 ≡ set values (2 * length (rows_of file) + j) (counter_value (rows_of file) values j) =
        made ∙ (ap (λ n. set values (2 * n + j) (counter_value (rows_from raw) values j)) count ∙ ap (λ rs. set values (2 * length (rows_of file) + j) (counter_value rs values j)) same) in
        let done = evaluated_counter outside file index numbers order of_file place values old fault k' lt j within place_is values2 written in
        back (place + 1) values2 new fault2
        (subst (λ s. IsEvaluated (scope_of outside file) (rows_of file) order (place + 1) values2 s fault2) (sym es)
        (subst (IsEvaluated (scope_of outside file) (rows_of file) order (place + 1) values2 old) (sym ef) done))

    pub nothing_step : (node : ℕ) → get_or order place 0 ≡ node → node < 2 * length raw → expression_at (rows_from raw) node ≡ None → IsEvaluated (scope_of outside file) (rows_from raw) order (place + 1) values old fault
    nothing_step node at low none =
        back (place + 1) values old fault
        (evaluated_nothing outside file index numbers order of_file place values old fault k' lt node at (omega (arith, count)) (ap (λ rs. expression_at rs node) (sym same) ∙ none))

    pub expression_step : (node : ℕ) (e : Tree) → get_or order place 0 ≡ node → expression_at (rows_from raw) node ≡ Some e → IsPrepared index numbers values node (mentioned e) old new → values2 ≡ set values node (counted (value new e)) → counted (value new e) < 2 ^ 32 → Joins new e fault fault2 → IsEvaluated (scope_of outside file) (rows_from raw) order (place + 1) values2 new fault2
    expression_step node e at is prepared made small joins =
        let t : Term = record { number = node; tree = e } in
        let listed : IsListed (rows_of file) (record { number = node; tree = e }) = record { at = ap (λ rs. expression_at rs node) (sym same) ∙ is } in
        back (place + 1) values2 new fault2
        (evaluated_expression outside file index numbers order of_file place values old fault k' lt (record { number = node; tree = e }) new listed at prepared values2 fault2 made small joins)

  pub sized : (values : List ℕ) → length values ≡ length numbers → IsSized (length raw) index numbers order values
  sized values is = subst (λ n. IsSized n index numbers order values) (sym count) (finding.sized outside file index numbers order of_file values is)

  pub first_place : (values : List ℕ) → length values ≡ length numbers → IsEvaluated (scope_of outside file) (rows_from raw) order 0 values outside None
  first_place values is = subst (λ rs. IsEvaluated (scope_of outside file) rs order 0 values outside None) (sym same) (finding.first_place outside file index numbers order of_file values is)

  module _ (place : ℕ) (values : List ℕ) (s s2 : Setting) (fault fault2 : Option Fault) (k : IsEvaluated (scope_of outside file) (rows_from raw) order place values s fault) (all : place ≡ length order) (entered : IsEntered index (rows_from raw) values (length raw) s s2) where
    all_known : IsEvaluated (scope_of outside file) (rows_of file) order (length order) values s fault
    all_known = subst (λ p. IsEvaluated (scope_of outside file) (rows_of file) order p values s fault) all (subst (λ rs. IsEvaluated (scope_of outside file) rs order place values s fault) same k)

    entered' : IsEntered index (rows_of file) values (length (rows_of file)) s s2
    entered' = subst (λ n. IsEntered index (rows_of file) values n s s2) count (subst (λ rs. IsEntered index rs values (length raw) s s2) same entered)

    pub outside_stands : (n : List ℕ) → IsSome (outside.name n) → s2.name n ≡ outside.name n
    outside_stands = finding.outside_stands outside file index numbers order of_file values s s2 fault all_known entered'

    pub constants_have : (n : List ℕ) → IsConstant (scope_of outside file) n → (v : ℕ) × (s2.name n ≡ Some (Value v)) × Has (scope_of outside file) n v
    constants_have = finding.constants_have outside file index numbers order of_file values s s2 fault all_known entered'

    pub others_have_none : (n : List ℕ) → outside.name n ≡ None → definition (definitions file) n ≡ None → s2.name n ≡ None
    others_have_none = finding.others_have_none outside file index numbers order of_file values s s2 fault all_known entered'

    pub objects_stand : (object name : List ℕ) → s2.constant object name ≡ outside.constant object name
    objects_stand = finding.objects_stand outside file index numbers order of_file values s s2 fault all_known entered'

    pub here_stands : s2.here ≡ outside.here
    here_stands = finding.here_stands outside file index numbers order of_file values s s2 fault all_known entered'

    pub first_fault : fault2 ≡ fault → MatchOption fault2 ((f : Fault) → ¬ IsConstantFault outside file f) (IsFirstFault (IsConstantFault outside file))
    first_fault e = subst (λ o. MatchOption o ((f : Fault) → ¬ IsConstantFault outside file f) (IsFirstFault (IsConstantFault outside file))) (sym e) (finding.first_fault outside file index numbers order of_file values s s2 fault all_known entered')
