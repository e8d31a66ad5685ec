use Rattle.std.proofs.Common.{◌+◌, drop, slice_index, arith}
use Rattle.std.proofs.lemmas.Grind.{common_steps}
use Rattle.p8_image.proofs.Words.{kept_inner}
use Rattle.p8_image.proofs.bytes.push_inner_entries.Goals as goal

pub loop-object-preserved : goal.loop-object-preserved
loop-object-preserved c =
    let h = kept_inner c.args.bases.now c.args.variables.now c.args.base
    (c.loop-object.offset + slice_index c.args.variables.now (slice_index c.args.instances.now c.loop-object.object-index))
    (drop (c.loop-object.object-index + 1) c.args.instances.now) in
    grind (arith, common_steps, h)
