use Rattle.std.proofs.Common.{ap, arith}
use Rattle.p8_gen.specs.Scopes.{names_of}
use Rattle.p8_stmt.specs.Cutting.{cut}
use Rattle.p8_stmt.proofs.Depths.{no_one_test}
use Rattle.p8_stmt.proofs.statement_depths.held_by_test.Goals as goal

pub returns-in_default-2 : goal.returns-in_default-2
returns-in_default-2 c = ap cut (no_one_test (names_of c.args.coder.now) c.args.tests.now (omega (arith, c.in_default.len_at_least)))
