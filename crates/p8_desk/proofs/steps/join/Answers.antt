use Rattle.p8_desk.proofs.Sharing.{joins}
use Rattle.p8_desk.proofs.steps.join.Goals as goal

pub join_seat-requires : goal.join_seat-requires
join_seat-requires c = (c.requires.own.0, c.requires.own.1, c.requires.own.3, c.requires.own.2, joins _ _ _ _ _ c.requires.free.0 c.requires.free.1 c.requires.free.2 c.requires.free.3)
