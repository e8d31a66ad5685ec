use Rattle.std.proofs.Common.{◌≡◌, length, None}
use Rattle.p8_tree.specs.Expressions.{no_items}
use Rattle.p8_tree.specs.Views.{items_of}
use Rattle.p8_statements.specs.Statements.{tests_after}
use Rattle.p8_statements.specs.Views.{rest_of}
use Rattle.p8_statements.proofs.statement_pieces.StatementPieces.tests.Given as goal

abbrev pub invariant-tests : goal.invariant-tests
invariant-tests l = tests_after no_items None (rest_of l.fn.self) ≡ tests_after (items_of l.tests) None (rest_of l.self)

abbrev pub decreases-tests : goal.decreases-tests
decreases-tests l = length (rest_of l.self)
