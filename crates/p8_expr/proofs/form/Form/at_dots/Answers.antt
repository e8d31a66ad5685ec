use Rattle.std.proofs.Common.{refl}
use Rattle.p8_tree.specs.Views.{tree_of}
use Rattle.p8_expr.proofs.HoleRows.{no_dots}
use Rattle.p8_expr.proofs.form.Form.at_dots.Goals as goal

pub returns-in_default-clause-comes : goal.returns-in_default-clause-comes
returns-in_default-clause-comes c =
    let d = c.in_default in
    (no_dots c.args.hole c.args.self.now.parts (tree_of c.args.tree.value) d.not-FirstBit d.not-Choice, refl)
