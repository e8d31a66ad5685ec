use Rattle.std.proofs.Common.{◌∙◌, refl, ap}
use Rattle.p8_wave.specs.Walks.{left_by}
use Rattle.p8_wave.proofs.Taking.{left_step, taking_step}
use Rattle.p8_wave.proofs.courses.take_turns.Goals as goal

pub loop-left-init : goal.loop-left-init
loop-left-init c = record { left = refl; signals = λ w past signals. record { done = past; signals = signals; rest = refl } }

pub loop-left-preserved : goal.loop-left-preserved
loop-left-preserved c =
    let left = c.loop-left.left.now in
    let some = c.in-len1-up.len_at_least in
    record {
      left = ap (left_by c.args.clock) c.after_first-left.ensures ∙ left_step c.args.clock left _ some c.if-turn-clock.false ∙ c.loop-left.invariant.left;
      signals = λ w past signals. taking_step w c.args.clock c.args.turns.now past left c.after_first-left.result.now c.loop-left.signals c.record_turn.new.self _ some c.if-turn-clock.false c.after_first-left.ensures (c.record_turn.ensures w) (c.loop-left.invariant.signals w past signals);
    }
