use Rattle.std.proofs.Common.{ap, ◌∙◌}
use Rattle.std.specs.Option.{option_or}
use Rattle.p8_tree.specs.Views.{statement_of, arm_of}
use Rattle.p8_build.specs.Arguments.{in_statement, in_arm}
use Rattle.p8_build.specs.Searching.{search_of}
use Rattle.p8_build.proofs.Called.{no_further, statements_next, arms_next, no_rest, some_rest, if_first, case_first, repeat_first, arm_first}
use Rattle.p8_build.proofs.callers.+callers.Goals as goal

pub in_arm-returns : goal.in_arm-returns
in_arm-returns t c =
    arm_first (search_of c.args.sought.now) c.args.arm.now c.as_slice.result.now c.deref.result.now c.as_slice.ensures c.deref.ensures.value c.in_items.ensures c.in_statements.ensures c.or.ensures

pub in_arms-loop-arm-preserved : goal.in_arms-loop-arm-preserved
in_arms-loop-arm-preserved t c =
    let s = search_of c.args.sought.now in
    c.or-first.ensures ∙ ap (λ o. option_or o c.in_arm.result) c.loop-arm.invariant
    ∙ ap (option_or _) (c.in_arm.ensures ∙ ap (λ x. in_arm s (arm_of x)) c.arm-item.is)
    ∙ arms_next s c.args.arms.now c.loop-arm.arm-index c.arm-item.result c.loop-arm-test.true

pub in_statements-loop-statement-preserved : goal.in_statements-loop-statement-preserved
in_statements-loop-statement-preserved t c =
    let s = search_of c.args.sought.now in
    c.or-first.ensures ∙ ap (λ o. option_or o c.in_statement.result) c.loop-statement.invariant
    ∙ ap (option_or _) (c.in_statement.ensures ∙ ap (λ x. in_statement s (statement_of x)) c.statement-item.is)
    ∙ statements_next s c.args.statements.now c.loop-statement.statement-index c.statement-item.result c.loop-statement-test.true

pub in_statement-returns-in-Repeat : goal.in_statement-returns-in-Repeat
in_statement-returns-in-Repeat t c =
    repeat_first (search_of c.args.sought.now) c.args.statement.now.kind c.in-Repeat.course c.in-Repeat.body c.deref-in-Repeat.result.now c.in-Repeat.is c.deref-in-Repeat.ensures.value c.in_course.ensures c.in_statements-in-Repeat.ensures c.or-in-Repeat.ensures

pub in_statement-returns-in-None : goal.in_statement-returns-in-None
in_statement-returns-in-None t c =
    let s = search_of c.args.sought.now in
    if_first s c.args.statement.now.kind c.in-If.arms c.in-If.rest c.deref.result.now c.in-If.is c.deref.ensures.value c.in_arms-first.ensures (no_rest s c.in-If.rest c.in-None.is) (no_further c.in_arms-first.result)

pub in_statement-returns-in-Some : goal.in_statement-returns-in-Some
in_statement-returns-in-Some t c =
    let s = search_of c.args.sought.now in
    if_first s c.args.statement.now.kind c.in-If.arms c.in-If.rest c.deref.result.now c.in-If.is c.deref.ensures.value c.in_arms-first.ensures
    (some_rest s c.in-If.rest c.in-Some.body c.deref-in-Some.result.now c.in-Some.is c.deref-in-Some.ensures.value c.in_statements.ensures) c.or.ensures

pub in_statement-returns-in-None-rest : goal.in_statement-returns-in-None-rest
in_statement-returns-in-None-rest t c =
    let s = search_of c.args.sought.now in
    case_first s c.args.statement.now.kind c.in-Case.value c.in-Case.arms c.in-Case.rest c.deref-in-Case.result.now c.in-Case.is c.deref-in-Case.ensures.value c.told_in-in-Case.ensures c.in_arms.ensures
    (no_rest s c.in-Case.rest c.in-None-rest.is) (c.or-first.ensures ∙ no_further (option_or c.told_in-in-Case.result c.in_arms.result))

pub in_statement-returns-in-Some-rest : goal.in_statement-returns-in-Some-rest
in_statement-returns-in-Some-rest t c =
    let s = search_of c.args.sought.now in
    case_first s c.args.statement.now.kind c.in-Case.value c.in-Case.arms c.in-Case.rest c.deref-in-Case.result.now c.in-Case.is c.deref-in-Case.ensures.value c.told_in-in-Case.ensures c.in_arms.ensures
    (some_rest s c.in-Case.rest c.in-Some-rest.body c.deref-in-Some-rest.result.now c.in-Some-rest.is c.deref-in-Some-rest.ensures.value c.in_statements-in-Some-rest.ensures)
    (c.or-in-Some-rest.ensures ∙ ap (λ o. option_or o c.in_statements-in-Some-rest.result) c.or-first.ensures)
