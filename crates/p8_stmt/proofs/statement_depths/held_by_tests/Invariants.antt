use Rattle.std.proofs.Common.{◌≡◌, take}
use Rattle.p8_tree.specs.Views.{items_of}
use Rattle.p8_gen.specs.Depths.{held_by_tests}
use Rattle.p8_gen.specs.Scopes.{names_of}
use Rattle.p8_stmt.specs.Cutting.{cut}
use Rattle.p8_stmt.proofs.statement_depths.held_by_tests.Given as goal

abbrev pub invariant-loop-test : goal.invariant-loop-test
invariant-loop-test l = l.most ≡ cut (held_by_tests (names_of l.coder) (items_of (take l.test-index l.tests)))
