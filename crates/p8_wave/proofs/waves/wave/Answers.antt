use Rattle.std.proofs.Common.{◌≡◌, ◌∙◌, ap, sym, ℕ, List, ◌++◌, codes, length, reverse}
use Rattle.p8_access.specs.Worlds.{World}
use Rattle.p8_pins.specs.Levels.{end_of}
use Rattle.p8_wave.specs.Scale.{period_of, ticks_in}
use Rattle.p8_wave.specs.Ending.{ended_text, end_text, last_clock}
use Rattle.p8_wave.specs.Walks.{IsSet}
use Rattle.p8_wave.specs.Wave.{signals_of}
use Rattle.p8_wave.proofs.Ended.{ended-as}
use Rattle.p8_wave.proofs.waves.wave.Goals as goal

pub returns : goal.returns
returns c = λ w is rises.
    let past = reverse c.args.history.now.turns.list in
    let listed : reverse c.as_slice-turns.result.now ≡ past = ap reverse c.as_slice-turns.ensures in
    let told = c.of_boot-scale.ensures.frequency w (ap (λ (w : World). w.memory) is) (ap (λ (w : World). w.first) is) in
    let set : IsSet w past c.args.script.now c.ticks.result c.run_end-end.result = record {
      lines = ap (λ (w : World). w.script) is;
      rises = rises;
      ends = c.run_end-end.ensures w (ap (λ (w : World). w.clocks) is) (ap (λ (w : World). w.turns) is) ∙ ap (end_of w) listed;
      lasts = c.ticks.ensures ∙ ap ticks_in (c.of_boot-scale.ensures.period ∙ ap period_of told);
    } in
    let turns = c.as_slice-turns.result.now in
    let limits = c.args.history.now.limits in
    let told_end = ended-as w turns limits.clocks limits.turns (ap (λ (w : World). w.clocks) is) (ap (λ (w : World). w.turns) is) ∙ ap (end_text w) listed in
    c.in_ok-push_end.ensures
    ∙ ap (λ (text : List ℕ). text ++ (codes "$comment " ++ ended_text (length turns) (last_clock (reverse turns)) limits.turns limits.clocks ++ codes " $end\n"))
    (c.in_ok-text.ensures w past told c.of_boot-scale.ensures.period (c.in_ok-walk.ensures w past set (sym listed)))
    ∙ ap (λ (text : List ℕ). signals_of w past c.args.selection ++ (codes "$comment " ++ text ++ codes " $end\n")) told_end
