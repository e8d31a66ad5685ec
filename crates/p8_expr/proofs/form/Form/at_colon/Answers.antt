use Rattle.std.proofs.Common.{refl}
use Rattle.p8_tree.specs.Views.{tree_of}
use Rattle.p8_expr.proofs.HoleRows.{no_colon}
use Rattle.p8_expr.proofs.form.Form.at_colon.Goals as goal

pub returns-in_default-clause-comes : goal.returns-in_default-clause-comes
returns-in_default-clause-comes c =
    let d = c.in_default in
    (no_colon c.args.hole c.args.self.now.parts (tree_of c.args.tree.value) d.not-LookFor, refl)
