use Rattle.std.proofs.Common.{take}
use Rattle.p8_tree.specs.Views.{items_of}
use Rattle.p8_gen.specs.Pieces.{Written}
use Rattle.p8_gen.specs.Statements.{tests}
use Rattle.p8_gen.specs.Writing.{Stands}
use Rattle.p8_stmt.specs.Walking.{names_at}
use Rattle.p8_stmt.proofs.context.Context.tests.Given as goal

abbrev pub invariant-loop-test : goal.invariant-loop-test
invariant-loop-test l = (w : Written) → Stands l.initial.out w → Stands l.out (tests (names_at l.self) l.to (items_of (take l.test-index l.items)) w)
