use Rattle.std.proofs.Common.{ap, ◌∙◌}
use Rattle.p8_tree.specs.Views.{statement_of, arm_of}
use Rattle.p8_tree.specs.Faults.{first_of_two}
use Rattle.p8_kinds.specs.Environments.{environment_of}
use Rattle.p8_kinds.specs.FirstMisuses.{first_in_statement, first_in_arm}
use Rattle.p8_kinds.proofs.StatementRows.{no_further, statements_next, arms_next, no_rest, some_rest, if_first, case_first, repeat_first, arm_first}
use Rattle.p8_kinds.proofs.statements.+statements.Goals as goal

pub first_in_arm-returns : goal.first_in_arm-returns
first_in_arm-returns t c =
    arm_first (environment_of c.args.scope.now) c.args.arm.now c.as_slice.result.now c.deref.result.now c.as_slice.ensures c.deref.ensures.value c.first_in_items.ensures c.first_in_statements.ensures c.first_of_two.ensures

pub first_in_arms-loop-arm-preserved : goal.first_in_arms-loop-arm-preserved
first_in_arms-loop-arm-preserved t c =
    let env = environment_of c.args.scope.now in
    c.first_of_two-first.ensures ∙ ap (λ o. first_of_two o c.first_in_arm.result) c.loop-arm.invariant
    ∙ ap (first_of_two _) (c.first_in_arm.ensures ∙ ap (λ x. first_in_arm env (arm_of x)) c.arm-item.is)
    ∙ arms_next env c.args.arms.now c.loop-arm.arm-index c.arm-item.result c.loop-arm-test.true

pub first_in_statements-loop-statement-preserved : goal.first_in_statements-loop-statement-preserved
first_in_statements-loop-statement-preserved t c =
    let env = environment_of c.args.scope.now in
    c.first_of_two-first.ensures ∙ ap (λ o. first_of_two o c.first_in_statement.result) c.loop-statement.invariant
    ∙ ap (first_of_two _) (c.first_in_statement.ensures ∙ ap (λ x. first_in_statement env (statement_of x)) c.statement-item.is)
    ∙ statements_next env c.args.statements.now c.loop-statement.statement-index c.statement-item.result c.loop-statement-test.true

pub first_in_statement-returns-in-Repeat : goal.first_in_statement-returns-in-Repeat
first_in_statement-returns-in-Repeat t c =
    repeat_first (environment_of c.args.scope.now) c.args.statement.now.kind c.in-Repeat.course c.in-Repeat.body c.deref-in-Repeat.result.now c.in-Repeat.is c.deref-in-Repeat.ensures.value c.first_in_course.ensures c.first_in_statements-in-Repeat.ensures c.first_of_two-in-Repeat.ensures

pub first_in_statement-returns-in-None : goal.first_in_statement-returns-in-None
first_in_statement-returns-in-None t c =
    let env = environment_of c.args.scope.now in
    if_first env c.args.statement.now.kind c.in-If.arms c.in-If.rest c.deref.result.now c.in-If.is c.deref.ensures.value c.first_in_arms-first.ensures (no_rest env c.in-If.rest c.in-None.is) (no_further c.first_in_arms-first.result)

pub first_in_statement-returns-in-Some : goal.first_in_statement-returns-in-Some
first_in_statement-returns-in-Some t c =
    let env = environment_of c.args.scope.now in
    if_first env c.args.statement.now.kind c.in-If.arms c.in-If.rest c.deref.result.now c.in-If.is c.deref.ensures.value c.first_in_arms-first.ensures
    (some_rest env c.in-If.rest c.in-Some.body c.deref-in-Some.result.now c.in-Some.is c.deref-in-Some.ensures.value c.first_in_statements.ensures) c.first_of_two.ensures

pub first_in_statement-returns-in-None-rest : goal.first_in_statement-returns-in-None-rest
first_in_statement-returns-in-None-rest t c =
    let env = environment_of c.args.scope.now in
    case_first env c.args.statement.now.kind c.in-Case.value c.in-Case.arms c.in-Case.rest c.deref-in-Case.result.now c.in-Case.is c.deref-in-Case.ensures.value c.first_in.ensures c.first_in_arms.ensures
    (no_rest env c.in-Case.rest c.in-None-rest.is) (c.first_of_two-first.ensures ∙ no_further (first_of_two c.first_in.result c.first_in_arms.result))

pub first_in_statement-returns-in-Some-rest : goal.first_in_statement-returns-in-Some-rest
first_in_statement-returns-in-Some-rest t c =
    let env = environment_of c.args.scope.now in
    case_first env c.args.statement.now.kind c.in-Case.value c.in-Case.arms c.in-Case.rest c.deref-in-Case.result.now c.in-Case.is c.deref-in-Case.ensures.value c.first_in.ensures c.first_in_arms.ensures
    (some_rest env c.in-Case.rest c.in-Some-rest.body c.deref-in-Some-rest.result.now c.in-Some-rest.is c.deref-in-Some-rest.ensures.value c.first_in_statements-in-Some-rest.ensures)
    (c.first_of_two-in-Some-rest.ensures ∙ ap (λ o. first_of_two o c.first_in_statements-in-Some-rest.result) c.first_of_two-first.ensures)
