use Rattle.std.proofs.Common.{sym, subst}
use Rattle.p8_tree.specs.Views.{tree_of}
use Rattle.p8_kinds.specs.Environments.{environment_of}
use Rattle.p8_kinds.specs.Misuses.{in_data, UnknownIn}
use Rattle.p8_fold.proofs.Judging.{Tells}
use Rattle.p8_kinds.proofs.Told.{told, as_match}
use Rattle.p8_kinds.proofs.misuses.first_unknown.Goals as goal

pub returns : goal.returns
returns c =
    let env = environment_of c.args.scope.now in
    let e = tree_of c.args.expr.now in
    as_match (UnknownIn env e) c.first_in.result (subst (λ o. Tells o (UnknownIn env e)) (sym c.first_in.ensures) (told (in_data env) e))
