use Rattle.p8_view.proofs.Eights.{told_drives}
use Rattle.p8_view.proofs.cogs.Cogs.joined.Goals as goal

pub returns : goal.returns
returns c = λ w past are. told_drives w past c.args.self.now are c.directions.result c.high.result c.directions.ensures c.high.ensures
