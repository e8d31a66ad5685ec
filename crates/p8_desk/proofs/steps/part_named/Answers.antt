use Rattle.p8_desk.proofs.Sharing.{splits}
use Rattle.p8_desk.proofs.steps.part_named.Goals as goal

pub split_seat-requires : goal.split_seat-requires
split_seat-requires g c = (c.requires.own.0, c.requires.own.1, splits g.B.Named.cog _ _ _ c.requires.free.0 c.requires.free.1)
