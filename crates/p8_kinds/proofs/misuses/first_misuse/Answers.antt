use Rattle.std.proofs.Common.{sym, subst}
use Rattle.p8_tree.specs.Views.{statements_of}
use Rattle.p8_kinds.specs.Environments.{environment_of}
use Rattle.p8_kinds.specs.Misuses.{MisuseInStatements}
use Rattle.p8_fold.proofs.Judging.{Tells}
use Rattle.p8_kinds.proofs.Told.{told_statements, as_match}
use Rattle.p8_kinds.proofs.misuses.first_misuse.Goals as goal

pub returns : goal.returns
returns c =
    let env = environment_of c.args.scope.now in
    let ss = statements_of c.args.body.now in
    as_match (MisuseInStatements env ss) c.first_in_statements.result (subst (λ o. Tells o (MisuseInStatements env ss)) (sym c.first_in_statements.ensures) (told_statements env ss))
