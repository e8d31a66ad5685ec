use Rattle.std.proofs.Common.{map, [], refl}
use Rattle.p8_tree.specs.Views.{constant_of}
use Rattle.p8_blocks.specs.Reading as files
use Rattle.p8_blocks.specs.Reading.{constants}
use Rattle.p8_blocks.proofs.Stepping.{added}
use Rattle.p8_blocks.proofs.lines.first_constants.Goals as goal

pub returns-clause-read : goal.returns-clause-read
returns-clause-read c = added [] [] (constants (map constant_of c.in_ok-items.items)) c.new.result c.new.ensures.block c.new.ensures.begun refl (files.first_constants c.in_ok-items.ensures.read)
