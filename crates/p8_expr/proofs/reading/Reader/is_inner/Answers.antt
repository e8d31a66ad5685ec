use Rattle.p8_expr.proofs.Taking.{inner_left}
use Rattle.p8_expr.proofs.reading.Reader.is_inner.Goals as goal

pub returns-in_default : goal.returns-in_default
returns-in_default c =
    let d = c.in_default in
    inner_left c.args.self.now.form.stage c.args.self.now.form.parts d.not-Using d.not-Coloned d.not-StringOpened
