use Rattle.std.proofs.Common.{ap, ◌∙◌}
use Rattle.p8_tree.specs.Expressions.{no_items, ◌▸◌}
use Rattle.p8_tree.specs.Views.{item_of}
use Rattle.p8_gen.specs.Depths.{held_by_tests}
use Rattle.p8_gen.specs.Scopes.{names_of}
use Rattle.p8_stmt.specs.Cutting.{cut}
use Rattle.p8_stmt.proofs.Depths.{most_next, tests_next}
use Rattle.p8_stmt.proofs.statement_depths.held_by_tests.Goals as goal

pub loop-test-preserved : goal.loop-test-preserved
loop-test-preserved c =
    let n = names_of c.args.coder.now in
    most_next _ _ c.loop-test.invariant (c.held_by_choice.ensures ∙ ap (λ x. cut (held_by_tests n (no_items ▸ item_of x))) c.test-item.is) c.max-most.ensures
    ∙ ap cut (tests_next n c.args.tests.now c.loop-test.test-index c.test-item.result c.loop-test-test.true)
