use Rattle.std.proofs.Common.{arith}
use mathlib.Core.Option.{none}
use Rattle.atomic_table.specs.Table.{step as move}
use Rattle.p8_desk.proofs.Keeping.{sees-as}
use Rattle.p8_desk.proofs.steps.tell_named.Goals as goal

pub store-requires : goal.store-requires
store-requires g c = (c.requires.own, (let words = c.requires.shape.0 in omega arith), sees-as _ _ _ _ c.args.outcome.count g.B.Named.seen c.args.seat.now.me (move 0 0 0 0 none) c.requires.told)
