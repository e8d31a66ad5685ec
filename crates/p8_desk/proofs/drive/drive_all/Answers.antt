use Rattle.p8_desk.proofs.Gathering.{riding-all}
use Rattle.p8_desk.proofs.drive.drive_all.Goals as goal

pub drive-count-requires-clause-riding : goal.drive-count-requires-clause-riding
drive-count-requires-clause-riding c = riding-all c.args.desk.now c.args.passes.now _ c.gather-seat.result.me c.requires.there c.gather-seat.ensures.gathered

pub scatter-requires-clause-riding : goal.scatter-requires-clause-riding
scatter-requires-clause-riding c = c.drive-count.ensures.riding

pub scatter-requires-clause-seen : goal.scatter-requires-clause-seen
scatter-requires-clause-seen c = c.drive-count.ensures.seen

pub returns-clause-over : goal.returns-clause-over
returns-clause-over c = let one = c.drive-count.ensures.over in c.scatter.ensures.over one.0 one.1 one.2 one.3 one.4
