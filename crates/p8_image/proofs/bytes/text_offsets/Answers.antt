use Rattle.std.proofs.Common.{◌+◌, ◌∙◌, ap, sym, drop, arith}
use Rattle.std.proofs.lemmas.Grind.{common_steps}
use Rattle.p8_image.specs.Keeping.{kept}
use Rattle.p8_image.specs.Layout.{text_size}
use Rattle.p8_image.proofs.Keeping.{kept_twice}
use Rattle.p8_image.proofs.Words.{same_places}
use Rattle.p8_image.proofs.bytes.text_offsets.Goals as goal

pub loop-text-preserved : goal.loop-text-preserved
loop-text-preserved c =
    let after = c.loop-text.offset + text_size c.text-item.result in
    let rest = drop (c.loop-text.text-index + 1) c.args.texts.now in
    let places = same_places text_size (kept after) after (kept_twice after) rest in
    let twice = kept_twice after in
    (grind (arith, common_steps, places), ap kept c.add_text-offset.ensures ∙ twice ∙ sym c.add_text-offset.ensures)
