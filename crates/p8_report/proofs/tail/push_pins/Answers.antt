use Rattle.std.proofs.lemmas.Result.{on_ok_weaker}
use Rattle.p8_report.proofs.LineEnds.{pins_line}
use Rattle.p8_report.proofs.tail.push_pins.Goals as goal

pub returns : goal.returns
returns c = on_ok_weaker c.push_text.result (λ e w past h. pins_line past _ _ _ _ _ (c.dira.ensures w past h) (c.outputs.ensures w past h) c.in_ok-push_longs.ensures e) c.push_text.ensures
