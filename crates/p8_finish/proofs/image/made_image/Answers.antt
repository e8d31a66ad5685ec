use Rattle.std.proofs.Common.{rules}
use Rattle.p8_finish.proofs.Lengths.{image_length}
use Rattle.p8_finish.proofs.image.made_image.Goals as goal

pub returns-clause-length : goal.returns-clause-length
returns-clause-length c = image_length c.args.seed c.push_bytes.new.bytes.items (search rules)
