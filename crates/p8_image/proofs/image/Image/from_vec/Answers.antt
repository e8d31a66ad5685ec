use Rattle.p8_image.proofs.Memories.{length-of-memory, header-of-memory}
use Rattle.p8_image.proofs.image.Image.from_vec.Goals as goal

pub invariant_of-result : goal.invariant_of-result
invariant_of-result c = (c.requires, length-of-memory c.args.bytes.items c.requires, header-of-memory c.args.bytes.items c.requires)
