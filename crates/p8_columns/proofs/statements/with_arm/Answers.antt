use Rattle.std.proofs.Common.{refl}
use Rattle.p8_tree.specs.Views.{arm_of, statement_of, statements_of}
use Rattle.p8_columns.specs.Reader.{chained, with_arm}
use Rattle.p8_columns.proofs.Built.{last_same, ok_as}
use Rattle.p8_columns.proofs.statements.with_arm.Goals as goal

pub returns-in_ok-last-in-Some : goal.returns-in_ok-last-in-Some
returns-in_ok-last-in-Some c =
    let a = arm_of c.args.arm in
    ok_as c.with_last.result _ (with_arm (statements_of c.args.statements.items) a) (last_same (λ ss. with_arm ss a) (λ s. chained s a) (λ ss s. refl) c.args.statements.items c.pop.new.self.items c.in-Some.last (statement_of c.in_ok-last-in-Some.last) c.in-Some.ensures.items c.in_ok-last-in-Some.ensures) c.with_last.ensures
