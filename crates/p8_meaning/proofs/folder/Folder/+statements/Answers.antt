use Rattle.std.proofs.Common.{ap, ◌∙◌}
use Rattle.p8_tree.specs.Views.{items_of, arm_of, arms_of, statements_of}
use Rattle.p8_meaning.specs.Copies.{constants_of, chain_of, condition_of}
use Rattle.p8_meaning.proofs.Bodies.{arm-folded, body-next, arms-next, chain-next, if-is, case-is, repeat-is, other-none, other-some, done-as}
use Rattle.p8_meaning.proofs.folder.Folder.+statements.Goals as goal

pub arm-returns : goal.arm-returns
arm-returns t c =
    arm-folded (constants_of c.args.self.now) c.args.arm.now c.from_vec.result c.as_slice.result.now c.in_ok-body.body c.deref.result.now
    (ap items_of c.from_vec.ensures ∙ c.in_ok-tests.ensures) c.as_slice.ensures c.in_ok-body.ensures c.deref.ensures.value

pub body-loop-statement-preserved : goal.body-loop-statement-preserved
body-loop-statement-preserved t c =
    body-next (constants_of c.args.self.now) c.args.statements.now c.loop-statement.statement-index c.statement-item.result (statements_of c.loop-statement.out.items) (statements_of c.put_statement.new.out.items)
    c.loop-statement-test.true c.loop-statement.invariant c.statement-item.is c.in_ok-put_statement.ensures

pub arms-loop-arm-preserved : goal.arms-loop-arm-preserved
arms-loop-arm-preserved t c =
    arms-next (constants_of c.args.self.now) c.args.arms.now c.loop-arm.arm-index c.arm-item.result c.loop-arm.folded.items c.push.new.self.items c.in_ok-arm.field-0
    c.loop-arm-test.true c.loop-arm.invariant c.arm-item.is c.in_ok-arm.ensures c.in_ok-push.ensures.items

pub chain-loop-arm-preserved : goal.chain-loop-arm-preserved
chain-loop-arm-preserved t c =
    chain-next (constants_of c.args.self.now) c.args.arms.now c.loop-arm.arm-index c.arm-item.result (chain_of c.loop-arm.left) (chain_of c.in_ok-left.left)
    (condition_of c.condition_of_arm-condition.result) c.as_slice.result.now (arm_of c.in_ok-arm.arm)
    c.loop-arm-test.true c.loop-arm.invariant c.arm-item.is c.condition_of_arm-condition.ensures c.as_slice.ensures c.in_ok-arm.ensures c.in_ok-left.ensures

pub put_statement-returns-in-None : goal.put_statement-returns-in-None
put_statement-returns-in-None t c =
    let cs = constants_of c.args.self.now in
    done-as c.put_chain.result (statements_of c.put_chain.new.out.items) _ _
    (if-is cs (statements_of c.args.out.now.items) c.args.statement.now.place c.args.statement.now.kind c.in-If.arms c.in-If.other c.deref.result.now (chain_of c.in_ok-left-in-If.left) _
    c.in-If.is c.deref.ensures.value c.in_ok-left-in-If.ensures (other-none cs c.in-If.other c.in-None.is))
    c.put_chain.ensures

pub put_statement-returns-in_ok-body-in-Some : goal.put_statement-returns-in_ok-body-in-Some
put_statement-returns-in_ok-body-in-Some t c =
    let cs = constants_of c.args.self.now in
    done-as c.put_chain-in-Some.result (statements_of c.put_chain-in-Some.new.out.items) _ _
    (if-is cs (statements_of c.args.out.now.items) c.args.statement.now.place c.args.statement.now.kind c.in-If.arms c.in-If.other c.deref.result.now (chain_of c.in_ok-left-in-If.left) _
    c.in-If.is c.deref.ensures.value c.in_ok-left-in-If.ensures
    (other-some cs c.in-If.other c.in-Some.body c.in_ok-body-in-Some.body c.deref-in-Some.result.now c.in-Some.is c.deref-in-Some.ensures.value c.in_ok-body-in-Some.ensures))
    c.put_chain-in-Some.ensures

pub put_statement-returns-in-None-other : goal.put_statement-returns-in-None-other
put_statement-returns-in-None-other t c =
    let cs = constants_of c.args.self.now in
    done-as c.put_case.result (statements_of c.put_case.new.out.items) _ _
    (case-is cs (statements_of c.args.out.now.items) c.args.statement.now.place c.args.statement.now.kind c.in-Case.value c.in-Case.arms c.in-Case.other c.deref-in-Case.result.now (arms_of c.in_ok-arms-in-Case.arms.items) _
    c.in-Case.is c.deref-in-Case.ensures.value c.in_ok-arms-in-Case.ensures (other-none cs c.in-Case.other c.in-None-other.is))
    c.put_case.ensures

pub put_statement-returns-in_ok-body-in-Some-other : goal.put_statement-returns-in_ok-body-in-Some-other
put_statement-returns-in_ok-body-in-Some-other t c =
    let cs = constants_of c.args.self.now in
    done-as c.put_case-in-Some-other.result (statements_of c.put_case-in-Some-other.new.out.items) _ _
    (case-is cs (statements_of c.args.out.now.items) c.args.statement.now.place c.args.statement.now.kind c.in-Case.value c.in-Case.arms c.in-Case.other c.deref-in-Case.result.now (arms_of c.in_ok-arms-in-Case.arms.items) _
    c.in-Case.is c.deref-in-Case.ensures.value c.in_ok-arms-in-Case.ensures
    (other-some cs c.in-Case.other c.in-Some-other.body c.in_ok-body-in-Some-other.body c.deref-in-Some-other.result.now c.in-Some-other.is c.deref-in-Some-other.ensures.value c.in_ok-body-in-Some-other.ensures))
    c.put_case-in-Some-other.ensures

pub put_statement-returns-in_ok-body-in-Repeat : goal.put_statement-returns-in_ok-body-in-Repeat
put_statement-returns-in_ok-body-in-Repeat t c =
    done-as c.put_loop.result (statements_of c.put_loop.new.out.items) _ _
    (repeat-is (constants_of c.args.self.now) (statements_of c.args.out.now.items) c.args.statement.now.place c.args.statement.now.kind c.in-Repeat.course c.in-Repeat.body c.in_ok-body-in-Repeat.body c.deref-in-Repeat.result.now
    c.in-Repeat.is c.deref-in-Repeat.ensures.value c.in_ok-body-in-Repeat.ensures)
    c.put_loop.ensures
