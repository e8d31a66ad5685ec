use Rattle.std.proofs.Common.{◌∙◌, sym, ap}
use Rattle.p8_tree.specs.Views.{tree_of}
use Rattle.p8_kinds.specs.Environments.{environment_of}
use Rattle.p8_kinds.specs.FirstMisuses.{first_done}
use Rattle.p8_kinds.proofs.StatementRows.{not_alone}
use Rattle.p8_kinds.proofs.statements.first_done.Goals as goal

pub returns-in_default : goal.returns-in_default
returns-in_default c =
    c.first_in.ensures ∙ sym (ap (λ n. first_done (environment_of c.args.scope.now) n (tree_of c.args.expr.now)) (not_alone c.args.expr.now.place c.args.expr.now.kind c.in_default.not-Var))
