use Rattle.std.proofs.Common.{refl}
use Rattle.p8_tree.specs.Views.{tree_of, statement_of, statements_of}
use Rattle.p8_columns.specs.Reader.{tested, with_end}
use Rattle.p8_columns.proofs.Built.{last_same, ok_as}
use Rattle.p8_columns.proofs.statements.with_end.Goals as goal

pub returns-in-Some : goal.returns-in-Some
returns-in-Some c =
    let t = tree_of c.args.test in
    ok_as c.with_last.result _ (with_end (statements_of c.args.statements.items) c.args.until t) (last_same (λ ss. with_end ss c.args.until t) (λ s. tested s c.args.until t) (λ ss s. refl) c.args.statements.items c.pop.new.self.items c.in-Some.last (statement_of c.tested.result) c.in-Some.ensures.items c.tested.ensures) c.with_last.ensures
