use Rattle.std.proofs.Common.{subst, take}
use Rattle.p8_tree.specs.Expressions.{no_items, ◌▸◌}
use Rattle.p8_tree.specs.Views.{item_of, items_of}
use Rattle.p8_gen.specs.Statements.{tests}
use Rattle.p8_gen.specs.Writing.{Stands}
use Rattle.p8_stmt.specs.Walking.{names_at}
use Rattle.p8_stmt.proofs.Walks.{tests_next}
use Rattle.p8_stmt.proofs.context.Context.tests.Goals as goal

pub loop-test-preserved : goal.loop-test-preserved
loop-test-preserved c = λ w stands.
    let n = names_at c.args.self.now in
    let xs = c.args.items.now in
    let before = tests n c.args.to (items_of (take c.loop-test.test-index xs)) w in
    subst (Stands c.test.new.out) (tests_next n c.args.to xs c.loop-test.test-index c.test-item.result w c.loop-test-test.true)
    (subst (λ x. Stands c.test.new.out (tests n c.args.to (no_items ▸ item_of x) before)) c.test-item.is (c.in_ok-test.ensures before (c.loop-test.invariant w stands)))
