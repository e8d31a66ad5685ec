-- What is found once all nodes are evaluated.
use Rattle.std.proofs.Common.{◌≡◌, inl, inr, ℕ, ◌<◌, List, length, get_or, Option, Some, None, IsSome, refl, sym, ◌∙◌, arith}
use Rattle.std.specs.Prelude.{MatchOption}
use Rattle.std.proofs.lemmas.List.{get_or_default}
use Rattle.std.proofs.lemmas.List.Elements.{Contains-get_or}
use Rattle.p8_tree.specs.Sources.{Source}
use Rattle.p8_tree.specs.declared.faults.Fault.{Fault}
use Rattle.p8_tree.specs.Faults.{IsFirstFault}
use Rattle.p8_tree.proofs.Firsts.{IsFirstFault-along}
use Rattle.p8_fold.specs.declared.meanings.Meaning.TheVariants.{Value}
use Rattle.p8_fold.specs.Meanings.{Setting}
use Rattle.p8_constants.specs.Items.{definition, definitions}
use Rattle.p8_constants.specs.Constants.{Scope, scope_of, Has, IsConstant, IsConstantFault}
use Rattle.p8_constants.specs.Rows.{Row, rows_of, row_at, first_named, constant_at, node_of, IsPlan, IsBefore, IsFaultBefore, IsEvaluated, IsEntered, IsSized}
use Rattle.p8_constants.proofs.Listing.{expression_within, named_at}
use Rattle.p8_constants.proofs.Graphs.{has_item, option_cases, item_of, listed_terms, terms_listed, free_and_named}
use Rattle.p8_constants.proofs.Evaluating.{index_none, index_some, index_given, has_value, node_within}

some_of : {X : Type 0} (o : Option X) → IsSome o → (x : X) × (o ≡ Some x)
some_of {X = X} None some = absurd (let no : IsSome {T = X} None = some in cc)
some_of (Some x) some = (x, refl)

module _ (outside : Setting) (file : Source) (index : List ℕ → Option ℕ) (numbers order : List ℕ) (plan : IsPlan outside (rows_of file) index numbers order) where
  abbrev rows : List Row
  rows = rows_of file

  abbrev c : Scope
  c = scope_of outside file

  pub sized : (values : List ℕ) → length values ≡ length numbers → IsSized (length rows) index numbers order values
  sized values same = record {
    numbers_size = plan.size;
    values_size = same ∙ plan.size;
    order_within = λ place lt. (plan.nodes (get_or order place 0)).0 (Contains-get_or order place 0 lt);
    index_within = λ n k at. elim (option_cases (constant_at outside rows n)) [
      | inl none ↦ absurd (let no : None ≡ Some k = sym (index_none outside file index numbers order plan n none) ∙ at in cc)
      | inr (i, item) ↦
          let both : Some (node_of rows i) ≡ Some k = sym (index_some outside file index numbers order plan n i item) ∙ at in
          let node : node_of rows i ≡ k = cc in
          omega (arith, node_within outside file index numbers order plan i (has_item outside file n i item).1)
    ];
  }

  pub first_place : (values : List ℕ) → length values ≡ length numbers → IsEvaluated c rows order 0 values outside None
  first_place values same = record {
    size = same ∙ plan.size;
    known = λ node (q, less, inside, is). absurd (omega arith);
    table = record {
      given = λ n some. refl;
      unknown = λ n free none. free;
      constants = λ object name. refl;
      here = refl;
    };
    faults = λ f g. absurd (let (q, less, inside, is) = g.before in omega arith);
  }

  module _ (values : List ℕ) (s s2 : Setting) (fault : Option Fault) (k : IsEvaluated c rows order (length order) values s fault) (entered : IsEntered index rows values (length rows) s s2) where
    all_before : (node : ℕ) → node < length numbers → IsBefore order (length order) node
    all_before node lt =
        let (q, inside, is) = (plan.nodes node).1 lt in
        (q, inside, inside, get_or_default order q 0 node inside ∙ is)

    pub outside_stands : (n : List ℕ) → IsSome (outside.name n) → s2.name n ≡ outside.name n
    outside_stands n some = entered.unknown n (index_given outside file index numbers order plan n some) ∙ k.table.given n some

    pub constants_have : (n : List ℕ) → IsConstant c n → (v : ℕ) × (s2.name n ≡ Some (Value v)) × Has c n v
    constants_have n (free, defined) =
        let (sum, d) = some_of (definition c.constants n) defined in
        let (i, item) = item_of outside file n sum free d in
        let node = node_of rows i in
        let found = has_item outside file n i item in
        let named : (row_at rows i).item.name ≡ Some n = named_at rows n i (free_and_named (outside.name n) (first_named rows n) i item).1 in (
          get_or values node 0,
          entered.entered i n node found.1 named (index_some outside file index numbers order plan n i item),
          has_value outside file index numbers order plan values n i item (k.known node (all_before node (node_within outside file index numbers order plan i found.1))),
        )

    pub others_have_none : (n : List ℕ) → outside.name n ≡ None → definition (definitions file) n ≡ None → s2.name n ≡ None
    others_have_none n free undefined = elim (option_cases (constant_at outside rows n)) [
      | inl none ↦ entered.unknown n (index_none outside file index numbers order plan n none) ∙ k.table.unknown n free none
      | inr (i, item) ↦ absurd (let d = (has_item outside file n i item).2 in cc)
    ]

    pub objects_stand : (object name : List ℕ) → s2.constant object name ≡ outside.constant object name
    objects_stand object name = entered.constants object name ∙ k.table.constants object name

    pub here_stands : s2.here ≡ outside.here
    here_stands = entered.here ∙ k.table.here

    fault_is : (f : Fault) → IsFaultBefore c rows order (length order) f → IsConstantFault outside file f
    fault_is f g = record { expression = g.expression; stands = terms_listed file g.expression (record { at = g.listed }); setting = g.setting; right = g.right; fault = g.fault }

    fault_was : (f : Fault) → IsConstantFault outside file f → IsFaultBefore c rows order (length order) f
    fault_was f g =
        let listed = listed_terms file g.expression g.stands in
        record { expression = g.expression; listed = listed.at; before = all_before g.expression.number (omega (arith, expression_within rows g.expression.number g.expression.tree listed.at, plan.size)); setting = g.setting; right = g.right; fault = g.fault }

    first_of : (o : Option Fault) → MatchOption o ((f : Fault) → ¬ IsFaultBefore c rows order (length order) f) (IsFirstFault (IsFaultBefore c rows order (length order))) → MatchOption o ((f : Fault) → ¬ IsConstantFault outside file f) (IsFirstFault (IsConstantFault outside file))
    first_of None none = λ f g. none f (fault_was f g)
    first_of (Some f) first = IsFirstFault-along fault_is fault_was first

    pub first_fault : MatchOption fault ((f : Fault) → ¬ IsConstantFault outside file f) (IsFirstFault (IsConstantFault outside file))
    first_fault = first_of fault k.faults
