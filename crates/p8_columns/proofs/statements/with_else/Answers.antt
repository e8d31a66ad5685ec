use Rattle.std.proofs.Common.{refl}
use Rattle.p8_tree.specs.Views.{statement_of, statements_of}
use Rattle.p8_columns.specs.Reader.{ended, with_else}
use Rattle.p8_columns.proofs.Built.{last_same, ok_as}
use Rattle.p8_columns.proofs.statements.with_else.Goals as goal

pub returns-in-Some : goal.returns-in-Some
returns-in-Some c =
    let b = statements_of c.args.body.items in
    ok_as c.with_last.result _ (with_else (statements_of c.args.statements.items) b) (last_same (λ ss. with_else ss b) (λ s. ended s b) (λ ss s. refl) c.args.statements.items c.pop.new.self.items c.in-Some.last (statement_of c.ended.result) c.in-Some.ensures.items c.ended.ensures) c.with_last.ensures
