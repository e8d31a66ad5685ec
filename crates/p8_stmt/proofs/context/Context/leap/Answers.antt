use Rattle.std.proofs.Common.{OnOk, sym, subst}
use Rattle.p8_gen.specs.Writing.{Stands}
use Rattle.p8_stmt.specs.Walking.{names_at, leap}
use Rattle.p8_stmt.proofs.context.Context.leap.Goals as goal

pub returns-then-jumps : goal.returns-then-jumps
returns-then-jumps c = λ w stands.
    subst (λ t. OnOk c.jump.result (Stands c.jump.new.out (leap (names_at c.args.self.now) t c.args.end w))) (sym c.if-jumps.true) (c.jump.ensures w stands)

pub returns-else-jumps : goal.returns-else-jumps
returns-else-jumps c = λ w stands. subst (λ t. Stands c.args.out.now (leap (names_at c.args.self.now) t c.args.end w)) (sym c.if-jumps.false) stands
