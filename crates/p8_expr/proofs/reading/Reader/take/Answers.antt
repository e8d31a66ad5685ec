use Rattle.p8_expr.proofs.Taking.{fresh_left}
use Rattle.p8_expr.proofs.reading.Reader.take.Goals as goal

pub begin-requires : goal.begin-requires
begin-requires c = record { fits = c.requires.fits; tall = c.requires.tall; fresh = fresh_left c.args.self.now.form.stage c.args.self.now.form.parts c.requires.inner c.in_default.not-Coloned c.in_default.not-StringOpened }
