use Rattle.std.proofs.Common.{subst, take, ap, ◌∙◌}
use Rattle.p8_tree.specs.Views.{arms_of}
use Rattle.p8_tree.specs.declared.statements.Arm.{out-Arm}
use Rattle.p8_gen.specs.Writing.{Stands}
use Rattle.p8_stmt.specs.Walking.{names_at, tests_of_arms}
use Rattle.p8_stmt.proofs.Walks.{tests_of_arms_next}
use Rattle.p8_stmt.proofs.context.Context.tests_of_arms.Goals as goal

pub loop-arm-preserved : goal.loop-arm-preserved
loop-arm-preserved c = λ w stands.
    let n = names_at c.args.self.now in
    let xs = c.args.arms.now in
    let before = tests_of_arms n (arms_of (take c.loop-arm.arm-index xs)) w in
    subst (Stands c.tests.new.out)
    (tests_of_arms_next n xs c.loop-arm.arm-index c.arm-item.result c.as_slice.result.now w c.loop-arm-test.true (c.as_slice.ensures ∙ ap (λ x. (out-Arm x).tests) c.arm-item.is))
    (c.in_ok-tests.ensures before (c.loop-arm.invariant w stands))
