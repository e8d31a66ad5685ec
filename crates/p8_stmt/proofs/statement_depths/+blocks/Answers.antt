use Rattle.std.proofs.Common.{max, ap, ap₂, ◌∙◌}
use Rattle.p8_tree.specs.declared.statements.Stmt as stmt
use Rattle.p8_tree.specs.Statements.{no_arms, ◌⊳◌}
use Rattle.p8_tree.specs.Views.{items_of, action_of, arm_of, arms_of, statements_of}
use Rattle.p8_gen.specs.Depths.{held_by_test, held_by_tests, held_in, held_in_action, held_in_arms, held_in_cases}
use Rattle.p8_gen.specs.Scopes.{names_of}
use Rattle.p8_stmt.specs.Cutting.{cut}
use Rattle.p8_stmt.proofs.Depths.{cut_max, most_next, statements_next, arms_next, cases_next, if_none, if_some, case_none, case_some, repeat_form, arm_held, case_held}
use Rattle.p8_stmt.proofs.statement_depths.+blocks.Goals as goal

pub held_in-loop-statement-preserved : goal.held_in-loop-statement-preserved
held_in-loop-statement-preserved t c =
    let n = names_of c.args.coder.now in
    most_next _ _ c.loop-statement.invariant (c.held_in_action.ensures ∙ ap (λ (s : stmt.Stmt). cut (held_in_action n (action_of s.kind))) c.statement-item.is) c.max-most.ensures
    ∙ ap cut (statements_next n c.args.statements.now c.loop-statement.statement-index c.statement-item.result c.loop-statement-test.true)

pub held_in_arms-loop-arm-preserved : goal.held_in_arms-loop-arm-preserved
held_in_arms-loop-arm-preserved t c =
    let n = names_of c.args.coder.now in
    most_next _ _ c.loop-arm.invariant (c.held_in_arm.ensures ∙ ap (λ x. cut (held_in_arms n (no_arms ⊳ arm_of x))) c.arm-item.is) c.max-most.ensures
    ∙ ap cut (arms_next n c.args.arms.now c.loop-arm.arm-index c.arm-item.result c.loop-arm-test.true)

pub held_in_cases-loop-arm-preserved : goal.held_in_cases-loop-arm-preserved
held_in_cases-loop-arm-preserved t c =
    let n = names_of c.args.coder.now in
    most_next _ _ c.loop-arm.invariant (c.held_in_case.ensures ∙ ap (λ x. cut (held_in_cases n (no_arms ⊳ arm_of x))) c.arm-item.is) c.max-most.ensures
    ∙ ap cut (cases_next n c.args.arms.now c.loop-arm.arm-index c.arm-item.result c.loop-arm-test.true)

pub held_in_arm-returns : goal.held_in_arm-returns
held_in_arm-returns t c =
    let n = names_of c.args.coder.now in
    c.max.ensures
    ∙ ap₂ max (c.held_by_test.ensures ∙ ap (λ ts. cut (held_by_test n (items_of ts))) c.as_slice.ensures) (c.held_in.ensures ∙ ap (λ ss. cut (held_in n (statements_of ss))) c.deref.ensures.value)
    ∙ cut_max _ _ ∙ ap cut (arm_held n c.args.arm.now)

pub held_in_case-returns : goal.held_in_case-returns
held_in_case-returns t c =
    let n = names_of c.args.coder.now in
    c.max.ensures
    ∙ ap₂ max (c.held_by_tests.ensures ∙ ap (λ ts. cut (held_by_tests n (items_of ts))) c.as_slice.ensures) (c.held_in.ensures ∙ ap (λ ss. cut (held_in n (statements_of ss))) c.deref.ensures.value)
    ∙ cut_max _ _ ∙ ap cut (case_held n c.args.arm.now)

pub held_in_action-returns-in-None : goal.held_in_action-returns-in-None
held_in_action-returns-in-None t c =
    let n = names_of c.args.coder.now in
    c.held_in_arms.ensures
    ∙ ap cut (ap (λ xs. held_in_arms n (arms_of xs)) c.deref.ensures.value ∙ if_none n c.args.statement.now.kind c.in-If.arms c.in-If.rest c.in-If.is c.in-None.is)

pub held_in_action-returns-in-Some : goal.held_in_action-returns-in-Some
held_in_action-returns-in-Some t c =
    let n = names_of c.args.coder.now in
    c.max.ensures
    ∙ ap₂ max (c.held_in_arms-in-Some.ensures ∙ ap (λ xs. cut (held_in_arms n (arms_of xs))) c.deref-in-Some.ensures.value)
    (c.held_in.ensures ∙ ap (λ ss. cut (held_in n (statements_of ss))) c.deref-in-Some-2.ensures.value)
    ∙ cut_max _ _ ∙ ap cut (if_some n c.args.statement.now.kind c.in-If.arms c.in-If.rest c.in-Some.body c.in-If.is c.in-Some.is)

pub held_in_action-returns-in-None-rest : goal.held_in_action-returns-in-None-rest
held_in_action-returns-in-None-rest t c =
    let n = names_of c.args.coder.now in
    c.max-most.ensures
    ∙ ap₂ max c.held.ensures (c.held_in_cases.ensures ∙ ap (λ xs. cut (held_in_cases n (arms_of xs))) c.deref-in-Case.ensures.value)
    ∙ cut_max _ _ ∙ ap cut (case_none n c.args.statement.now.kind c.in-Case.value c.in-Case.arms c.in-Case.rest c.in-Case.is c.in-None-rest.is)

pub held_in_action-returns-in-Some-rest : goal.held_in_action-returns-in-Some-rest
held_in_action-returns-in-Some-rest t c =
    let n = names_of c.args.coder.now in
    c.max-in-Some-rest.ensures
    ∙ ap₂ max (c.max-most.ensures ∙ ap₂ max c.held.ensures (c.held_in_cases.ensures ∙ ap (λ xs. cut (held_in_cases n (arms_of xs))) c.deref-in-Case.ensures.value) ∙ cut_max _ _)
    (c.held_in-in-Some-rest.ensures ∙ ap (λ ss. cut (held_in n (statements_of ss))) c.deref-in-Some-rest.ensures.value)
    ∙ cut_max _ _ ∙ ap cut (case_some n c.args.statement.now.kind c.in-Case.value c.in-Case.arms c.in-Case.rest c.in-Some-rest.body c.in-Case.is c.in-Some-rest.is)

pub held_in_action-returns-in-Repeat : goal.held_in_action-returns-in-Repeat
held_in_action-returns-in-Repeat t c =
    let n = names_of c.args.coder.now in
    c.held_in_loop.ensures _ (c.held_in-in-Repeat.ensures ∙ ap (λ ss. cut (held_in n (statements_of ss))) c.deref-in-Repeat.ensures.value)
    ∙ ap cut (repeat_form n c.args.statement.now.kind c.in-Repeat.course c.in-Repeat.body c.in-Repeat.is)
