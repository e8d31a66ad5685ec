use Rattle.std.proofs.Common.{map}
use Rattle.p8_tree.specs.Views.{datum_of}
use Rattle.p8_declarations.proofs.items.DataItemStage.step.Goals as goal

pub returns-in-Before : goal.returns-in-Before
returns-in-Before c = rw c.in-Before.is (c.from_size.ensures (map datum_of c.args.read.now))

pub returns-in-Behind : goal.returns-in-Behind
returns-in-Behind c = rw c.in-Behind.is c.from_value.ensures

pub returns-in-OpenBracket : goal.returns-in-OpenBracket
returns-in-OpenBracket c = rw c.in-OpenBracket.is (c.from_open_bracket.ensures (map datum_of c.args.read.now))

pub returns-in-Counted : goal.returns-in-Counted
returns-in-Counted c = rw c.in-Counted.is (c.from_count.ensures (map datum_of c.args.read.now))

pub returns-in-Over : goal.returns-in-Over
returns-in-Over c = rw c.in-Over.is c.from_end.ensures
