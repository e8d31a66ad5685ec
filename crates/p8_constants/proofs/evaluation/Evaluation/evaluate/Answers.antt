use Rattle.std.proofs.Common.{◌≡◌, ◌∙◌, ◌*◌, ◌-◌, ◌<◌, ◌≤◌, None, Some, length, get_or, ap, sym, arith}
use Rattle.std.specs.Prelude.{option_map}
use Rattle.std.proofs.lemmas.List.{get_or_read}
use Rattle.p8_tree.specs.Views.{tree_of}
use Rattle.p8_fold.specs.ConstantEntries.{setting_of, at_bytes}
use Rattle.p8_constants.specs.Rows.{rows_from, expression_at}
use Rattle.p8_constants.proofs.Stepping.{counter_step, nothing_step, expression_step, together}
use Rattle.p8_constants.proofs.evaluation.Evaluation.evaluate.Goals as goal

pub returns-then-node-expressions-clause-evaluated : goal.returns-then-node-expressions-clause-evaluated
returns-then-node-expressions-clause-evaluated c = λ outside file same plan k.
    let at : get_or c.args.plan.now.order.items c.args.place 0 ≡ c.index-node.result.now = sym (get_or_read c.args.plan.now.order.items c.args.place c.index-node.result.now c.requires.place c.index-node.ensures 0) in
    let high : 2 * length c.args.plan.now.rows ≤ c.index-node.result.now = omega (arith, c.len-expressions.ensures, c.if-node-expressions.true) in
    let j : c.index-node.result.now - 2 * c.len-expressions.result ≡ c.index-node.result.now - 2 * length c.args.plan.now.rows = ap (λ n. c.index-node.result.now - 2 * n) c.len-expressions.ensures in
    counter_step outside file c.args.plan.now.rows (λ n. at_bytes n c.args.plan.now.index.names) c.args.plan.now.numbers.items c.args.plan.now.order.items same plan c.args.place c.args.self.now.values.items c.count.new.self.values.items (setting_of c.args.self.now.consts) (setting_of c.count.new.self.consts) c.args.self.now.fault c.count.new.self.fault k c.requires.place
    c.index-node.result.now (c.index-node.result.now - 2 * c.len-expressions.result) at high j c.count.ensures.value (ap setting_of c.count.ensures.consts) c.count.ensures.fault

pub returns-in-None-clause-evaluated : goal.returns-in-None-clause-evaluated
returns-in-None-clause-evaluated c = λ outside file same plan k.
    let at : get_or c.args.plan.now.order.items c.args.place 0 ≡ c.index-node.result.now = sym (get_or_read c.args.plan.now.order.items c.args.place c.index-node.result.now c.requires.place c.index-node.ensures 0) in
    let low : c.index-node.result.now < 2 * length c.args.plan.now.rows = omega (arith, c.len-expressions.ensures, c.if-node-expressions.false) in
    let none : expression_at (rows_from c.args.plan.now.rows) c.index-node.result.now ≡ None = sym c.expression.ensures ∙ ap (option_map tree_of) c.in-None.is in
    nothing_step outside file c.args.plan.now.rows (λ n. at_bytes n c.args.plan.now.index.names) c.args.plan.now.numbers.items c.args.plan.now.order.items same plan c.args.place c.args.self.now.values.items c.args.self.now.values.items (setting_of c.args.self.now.consts) (setting_of c.args.self.now.consts) c.args.self.now.fault c.args.self.now.fault k c.requires.place
    c.index-node.result.now at low none

pub returns-in-Some-clause-evaluated : goal.returns-in-Some-clause-evaluated
returns-in-Some-clause-evaluated c = λ outside file same plan k.
    let at : get_or c.args.plan.now.order.items c.args.place 0 ≡ c.index-node.result.now = sym (get_or_read c.args.plan.now.order.items c.args.place c.index-node.result.now c.requires.place c.index-node.ensures 0) in
    let some : expression_at (rows_from c.args.plan.now.rows) c.index-node.result.now ≡ Some (tree_of c.in-Some.expr) = sym c.expression.ensures ∙ ap (option_map tree_of) c.in-Some.is in
    together c.fold.result
    (λ prepared made small joins. expression_step outside file c.args.plan.now.rows (λ n. at_bytes n c.args.plan.now.index.names) c.args.plan.now.numbers.items c.args.plan.now.order.items same plan c.args.place c.args.self.now.values.items c.fold.new.self.values.items (setting_of c.args.self.now.consts) (setting_of c.fold.new.self.consts) c.args.self.now.fault c.fold.new.self.fault k c.requires.place
    c.index-node.result.now (tree_of c.in-Some.expr) at some prepared made small joins)
    c.fold.ensures.prepared c.fold.ensures.value c.fold.ensures.small c.fold.ensures.fault
