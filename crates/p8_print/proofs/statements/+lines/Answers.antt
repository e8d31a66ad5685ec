use Rattle.std.proofs.Common.{refl}
use Rattle.std.proofs.lemmas.Result.{on_ok_weaker}
use Rattle.p8_print.specs.Layout.{lines_of_else, lines_of_other}
use Rattle.p8_print.proofs.WrittenStatements.{no_rest, some_rest, arm_written, item_written, statement_written, one_arm_written, one_item_written, if_written, case_written, repeat_written}
use Rattle.p8_print.proofs.statements.+lines.Goals as goal

pub write_arm-returns : goal.write_arm-returns
write_arm-returns t c =
    on_ok_weaker c.write_statements.result
    (arm_written c.args.is_first c.args.indent c.args.arm.now c.args.script.now c.arm_word-word.result c.as_slice.result.now c.in_ok-deeper.field-0 c.deref.result.now c.arm_word-word.ensures c.as_slice.ensures c.in_ok-deeper.ensures c.deref.ensures.value c.in_ok-write_arm_line.ensures) c.write_statements.ensures

pub write_item-returns : goal.write_item-returns
write_item-returns t c =
    on_ok_weaker c.write_statements.result
    (item_written c.args.indent c.args.item.now c.args.script.now c.as_slice.result.now c.in_ok-deeper.field-0 c.deref.result.now c.as_slice.ensures c.in_ok-deeper.ensures c.deref.ensures.value c.in_ok-write_item_line.ensures) c.write_statements.ensures

pub write_statement-returns-in_ok-write_statements-in-Repeat : goal.write_statement-returns-in_ok-write_statements-in-Repeat
write_statement-returns-in_ok-write_statements-in-Repeat t c =
    on_ok_weaker c.write_end.result
    (repeat_written c.args.indent c.in_ok-deeper-in-Repeat.field-0 c.args.statement.now.kind c.in-Repeat.course c.in-Repeat.body c.args.script.now c.deref-in-Repeat.result.now c.in-Repeat.is c.in_ok-deeper-in-Repeat.ensures c.deref-in-Repeat.ensures.value c.in_ok-write_repeat_line-in-Repeat.ensures c.in_ok-write_statements-in-Repeat.ensures) c.write_end.ensures

pub write_statements-loop-statement-preserved : goal.write_statements-loop-statement-preserved
write_statements-loop-statement-preserved t c =
    statement_written c.args.indent c.args.statements.now c.loop-statement.statement-index c.statement-item.result c.args.script.now c.loop-statement.script c.loop-statement-test.true c.statement-item.is c.loop-statement.invariant c.in_ok-write_statement.ensures

pub write_items-loop-item-preserved : goal.write_items-loop-item-preserved
write_items-loop-item-preserved t c =
    one_item_written c.args.indent c.args.items.now c.loop-item.item-index c.item-item.result c.args.script.now c.loop-item.script c.loop-item-test.true c.item-item.is c.loop-item.invariant c.in_ok-write_item.ensures

pub write_arms-loop-i-preserved : goal.write_arms-loop-i-preserved
write_arms-loop-i-preserved t c =
    one_arm_written c.args.indent c.args.arms.now c.loop-i.i c.index-arms-i.result c.args.script.now c.loop-i.script c.loop-i-test.true c.index-arms-i.is c.loop-i.invariant c.in_ok-write_arm.ensures

pub write_statement-returns-in-None : goal.write_statement-returns-in-None
write_statement-returns-in-None t c =
    if_written c.args.indent c.args.statement.now.kind c.in-If.arms c.in-If.rest c.args.script.now c.deref.result.now c.in-If.is c.deref.ensures.value c.in_ok-write_arms-in-If.ensures (no_rest (lines_of_else c.args.indent) refl c.in-If.rest c.write_arms.new.script c.in-None.is)

pub write_statement-returns-in-Some : goal.write_statement-returns-in-Some
write_statement-returns-in-Some t c =
    on_ok_weaker c.write_else.result
    (λ h.
    if_written c.args.indent c.args.statement.now.kind c.in-If.arms c.in-If.rest c.args.script.now c.deref.result.now c.in-If.is c.deref.ensures.value c.in_ok-write_arms-in-If.ensures (some_rest (lines_of_else c.args.indent) c.in-If.rest c.in-Some.body c.deref-in-Some.result.now c.write_arms.new.script c.in-Some.is c.deref-in-Some.ensures.value h))
    c.write_else.ensures

pub write_statement-returns-in-None-rest : goal.write_statement-returns-in-None-rest
write_statement-returns-in-None-rest t c =
    case_written c.args.indent c.in_ok-inner-in-Case.inner c.args.statement.now.kind c.in-Case.value c.in-Case.arms c.in-Case.rest c.args.script.now c.deref-in-Case.result.now c.in-Case.is c.in_ok-inner-in-Case.ensures c.deref-in-Case.ensures.value c.in_ok-write_headed_line-in-Case.ensures c.in_ok-write_items-in-Case.ensures
    (no_rest (lines_of_other c.in_ok-inner-in-Case.inner) refl c.in-Case.rest c.write_items.new.script c.in-None-rest.is)

pub write_statement-returns-in-Some-rest : goal.write_statement-returns-in-Some-rest
write_statement-returns-in-Some-rest t c =
    on_ok_weaker c.write_other.result
    (λ h.
    case_written c.args.indent c.in_ok-inner-in-Case.inner c.args.statement.now.kind c.in-Case.value c.in-Case.arms c.in-Case.rest c.args.script.now c.deref-in-Case.result.now c.in-Case.is c.in_ok-inner-in-Case.ensures c.deref-in-Case.ensures.value c.in_ok-write_headed_line-in-Case.ensures c.in_ok-write_items-in-Case.ensures
    (some_rest (lines_of_other c.in_ok-inner-in-Case.inner) c.in-Case.rest c.in-Some-rest.body c.deref-in-Some-rest.result.now c.write_items.new.script c.in-Some-rest.is c.deref-in-Some-rest.ensures.value h))
    c.write_other.ensures
