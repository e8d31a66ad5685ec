use Rattle.std.proofs.Common.{◌+◌, drop, arith}
use Rattle.std.proofs.lemmas.Grind.{common_steps}
use Rattle.p8_image.specs.Keeping.{kept}
use Rattle.p8_image.specs.Layout.{size_of}
use Rattle.p8_image.proofs.Keeping.{kept_twice}
use Rattle.p8_image.proofs.Words.{same_objects, same_here}
use Rattle.p8_image.proofs.bytes.push_objects.Goals as goal

pub loop-object-preserved : goal.loop-object-preserved
loop-object-preserved c =
    let after = c.loop-object.base + size_of c.object-item.result in
    let rest = drop (c.loop-object.object-index + 1) c.args.objects.now in
    let bases = same_here c.args.bases.now in
    let variables = same_here c.args.variables.now in
    let others = same_objects c.args.bases.now c.args.bases.now c.args.variables.now c.args.variables.now bases variables (kept after) after (kept_twice after) rest in
    grind (arith, common_steps, others)
