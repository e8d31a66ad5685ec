use Rattle.std.proofs.Common.{◌∙◌, ◌||◌, ap, ap₂}
use Rattle.p8_hint.proofs.Following.{quit_next, arms_quit_next, arm_quit, if_quits_none, if_quits_some, case_quits_none, case_quits_some}
use Rattle.p8_hint.proofs.openers.+quits.Goals as goal

pub arm_quits-returns : goal.arm_quits-returns
arm_quits-returns t c = c.quit.ensures ∙ arm_quit c.args.arm.now c.deref.result.now c.deref.ensures.value

pub arms_quit-loop-arm-preserved : goal.arms_quit-loop-arm-preserved
arms_quit-loop-arm-preserved t c =
    arms_quit_next c.args.arms.now c.loop-arm.arm-index c.arm-item.result c.loop-arm.found c.loop-arm-test.true c.arm-item.is c.loop-arm.invariant
    (c.either-found.ensures ∙ ap (λ b. c.loop-arm.found || b) c.arm_quits.ensures)

pub quit-loop-statement-preserved : goal.quit-loop-statement-preserved
quit-loop-statement-preserved t c =
    quit_next c.args.statements.now c.loop-statement.statement-index c.statement-item.result c.loop-statement.found c.loop-statement-test.true c.statement-item.is c.loop-statement.invariant
    (c.either-found.ensures ∙ ap (λ b. c.loop-statement.found || b) c.quits.ensures)

pub quits-returns-in-None : goal.quits-returns-in-None
quits-returns-in-None t c =
    c.arms_quit.ensures ∙ if_quits_none c.args.statement.now.kind c.in-If.arms c.in-If.rest c.deref.result.now c.in-If.is c.deref.ensures.value c.in-None.is

pub quits-returns-in-Some : goal.quits-returns-in-Some
quits-returns-in-Some t c =
    c.either.ensures ∙ ap₂ (λ a b. a || b) c.arms_quit-in-Some.ensures c.quit.ensures
    ∙ if_quits_some c.args.statement.now.kind c.in-If.arms c.in-If.rest c.in-Some.body c.deref-in-Some.result.now c.deref-in-Some-2.result.now c.in-If.is c.deref-in-Some.ensures.value c.in-Some.is c.deref-in-Some-2.ensures.value

pub quits-returns-in-None-rest : goal.quits-returns-in-None-rest
quits-returns-in-None-rest t c =
    c.arms_quit-in-None-rest.ensures
    ∙ case_quits_none c.args.statement.now.kind c.in-Case.field-0 c.in-Case.arms c.in-Case.rest c.deref-in-None-rest.result.now c.in-Case.is c.deref-in-None-rest.ensures.value c.in-None-rest.is

pub quits-returns-in-Some-rest : goal.quits-returns-in-Some-rest
quits-returns-in-Some-rest t c =
    c.either-in-Some-rest.ensures ∙ ap₂ (λ a b. a || b) c.arms_quit-in-Some-rest.ensures c.quit-in-Some-rest.ensures
    ∙ case_quits_some c.args.statement.now.kind c.in-Case.field-0 c.in-Case.arms c.in-Case.rest c.in-Some-rest.body c.deref-in-Some-rest.result.now c.deref-in-Some-rest-2.result.now c.in-Case.is c.deref-in-Some-rest.ensures.value
    c.in-Some-rest.is c.deref-in-Some-rest-2.ensures.value
