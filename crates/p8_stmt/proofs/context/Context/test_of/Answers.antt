use Rattle.std.proofs.Common.{subst, arith}
use Rattle.p8_gen.specs.Writing.{Stands}
use Rattle.p8_stmt.specs.Walking.{names_at}
use Rattle.p8_stmt.proofs.Walks.{no_one_test}
use Rattle.p8_stmt.proofs.context.Context.test_of.Goals as goal

pub returns-in_default-2 : goal.returns-in_default-2
returns-in_default-2 c = λ w stands.
    subst (Stands c.args.out.now) (no_one_test (names_at c.args.self.now) c.args.tests.now w (omega (arith, c.in_default.len_at_least))) stands
