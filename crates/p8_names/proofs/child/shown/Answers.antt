use Rattle.std.proofs.Common.{◌++◌, sym, ap, ◌∙◌, append-nil, arith}
use Rattle.std.proofs.lemmas.List.{drop_all}
use Rattle.p8_fold.specs.ConstantEntries.{setting_of}
use Rattle.p8_constants.specs.Names.{predefined_names}
use Rattle.p8_constants.specs.Standing.{item_of, items_of}
use Rattle.p8_names.specs.Children.{behind, methods_from, constants_from}
use Rattle.p8_names.proofs.ShowingChildren.{methods_next, constants_next}
use Rattle.p8_names.proofs.child.shown.Goals as goal

pub loop-item-init : goal.loop-item-init
loop-item-init c = (
  predefined_names,
  c.in_ok-before.ensures,
  ap (λ ms. ms ++ methods_from predefined_names (items_of c.args.items.now)) (sym c.new-methods.ensures),
  ap (λ cs. cs ++ constants_from (setting_of c.args.consts.now) predefined_names (items_of c.args.items.now)) (sym c.new-constants.ensures),
)

pub loop-item-preserved : goal.loop-item-preserved
loop-item-preserved c =
    let names = c.loop-item.invariant.0 in
    let s = setting_of c.args.consts.now in (
      behind names (item_of c.item-item.result),
      c.in_ok-go_behind.ensures names c.loop-item.invariant.1,
      methods_next c.args.items.now c.loop-item.item-index c.item-item.result names c.loop-item.methods _ (methods_from predefined_names (items_of c.args.items.now)) (omega arith) c.item-item.is c.loop-item.invariant.2 (c.in_ok-put_method.ensures names c.loop-item.invariant.1),
      constants_next s c.args.items.now c.loop-item.item-index c.item-item.result names c.loop-item.constants _ (constants_from s predefined_names (items_of c.args.items.now)) (omega arith) c.item-item.is c.loop-item.invariant.3 (c.in_ok-put_constant.ensures names c.loop-item.invariant.1),
    )

pub returns-clause-methods : goal.returns-clause-methods
returns-clause-methods c =
    sym (c.loop-item.invariant.2 ∙ (ap (λ ys. c.loop-item.methods ++ methods_from c.loop-item.invariant.0 (items_of ys)) (drop_all c.loop-item.item-index c.args.items.now (omega arith)) ∙ append-nil c.loop-item.methods))

pub returns-clause-constants : goal.returns-clause-constants
returns-clause-constants c =
    let s = setting_of c.args.consts.now in
    sym (c.loop-item.invariant.3 ∙ (ap (λ ys. c.loop-item.constants ++ constants_from s c.loop-item.invariant.0 (items_of ys)) (drop_all c.loop-item.item-index c.args.items.now (omega arith)) ∙ append-nil c.loop-item.constants))
