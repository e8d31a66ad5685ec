use Rattle.std.proofs.Common.{◌+◌, ℕ, arith, ◌∙◌, ap, ◌++◌, ◌∷◌, []}
use Rattle.p8_instr.specs.Instruction.{long_of}
use Rattle.p8_finish.specs.Made.{made_instr}
use Rattle.p8_finish.proofs.Ranges.{no_instrs, instr_step, number_none, number_step}
use Rattle.p8_finish.proofs.image.push_instructions.Goals as goal

pub loop-place-init : goal.loop-place-init
loop-place-init c = record { items = no_instrs c.args.seed c.args.longs.now.items; last = number_none c.args.seed }

pub loop-place-preserved : goal.loop-place-preserved
loop-place-preserved c =
    let next = number_step c.args.seed c.loop-place._place (c.loop-place._place + 1) c.loop-place.last c.after-last.result c.loop-place.invariant.last c.after-last.ensures (omega arith) in record {
      items = instr_step c.args.seed c.loop-place._place _ _ _ c.loop-place.invariant.items (c.in_ok-push_made.ensures ∙ ap (λ (n : ℕ). c.loop-place.longs.items ++ long_of (made_instr n) ∷ []) next);
      last = next;
    }
