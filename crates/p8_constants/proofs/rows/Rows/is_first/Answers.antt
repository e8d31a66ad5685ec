use Rattle.std.proofs.Common.{ap, sym}
use Rattle.p8_constants.proofs.Rowing.{row_read}
use Rattle.p8_constants.proofs.rows.Rows.is_first.Goals as goal

pub returns : goal.returns
returns c = sym (ap (λ r. r.first) (row_read (λ e. (e.item.now, e.first)) c.self.inside.entries.items c.args.k c.index.result.now c.args.self.now c.self.view_is c.requires c.index.ensures))
