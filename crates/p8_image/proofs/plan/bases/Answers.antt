use Rattle.std.proofs.Common.{◌+◌, ◌∙◌, ap, sym, drop, arith}
use Rattle.std.proofs.lemmas.Grind.{common_steps}
use Rattle.p8_image.specs.Keeping.{kept}
use Rattle.p8_image.specs.Layout.{size_of}
use Rattle.p8_image.proofs.Keeping.{kept_twice, kept_small}
use Rattle.p8_image.proofs.Words.{same_places}
use Rattle.p8_image.proofs.plan.bases.Goals as goal

pub loop-object-init : goal.loop-object-init
loop-object-init c = (grind (arith, common_steps), kept_small 16 (omega arith))

pub loop-object-preserved : goal.loop-object-preserved
loop-object-preserved c =
    let after = c.loop-object.base + size_of c.object-item.result in
    let rest = drop (c.loop-object.object-index + 1) c.args.objects.now in
    let places = same_places size_of (kept after) after (kept_twice after) rest in
    let twice = kept_twice after in
    (grind (arith, common_steps, places), ap kept c.add_object-base.ensures ∙ twice ∙ sym c.add_object-base.ensures)
