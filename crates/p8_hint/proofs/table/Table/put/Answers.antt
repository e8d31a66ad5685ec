use Rattle.p8_hint.proofs.Tabling.{put_is}
use Rattle.p8_hint.proofs.table.Table.put.Goals as goal

pub returns : goal.returns
returns c = λ n. put_is c.args.self.now.entries c.enter.new.entries c.args.name.now c.args.number c.in_ok-enter.ensures.entered c.in_ok-enter.ensures.others n
