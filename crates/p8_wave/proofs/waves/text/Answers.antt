use Rattle.std.proofs.Common.{◌∙◌, ap}
use Rattle.p8_wave.specs.Parts.{together}
use Rattle.p8_wave.proofs.Whole.{whole}
use Rattle.p8_wave.proofs.waves.text.Goals as goal

pub returns : goal.returns
returns c = λ w past told period walked.
    whole w past c.args.selection c.args.scale.now.frequency c.args.scale.now.period c.args.walk.now told period walked c.in_ok-shown.shown.items _ _ _ c.in_ok-shown.ensures (c.deref-2.ensures.value ∙ c.in_ok-entries.ensures ∙ ap together c.deref.ensures.value) c.deref-3.ensures.value c.deref-4.ensures.value
    _ _ _ _ _ c.new-out.ensures.items c.in_ok-push_head.ensures c.in_ok-push_first.ensures c.deref-5.ensures.value c.in_ok-push_text.ensures
