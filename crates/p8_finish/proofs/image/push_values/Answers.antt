use Rattle.std.proofs.Common.{◌+◌, ℕ, arith, ◌∙◌, ap, ◌++◌, ◌∷◌, []}
use Rattle.p8_finish.specs.Made.{number}
use Rattle.p8_finish.proofs.Ranges.{map_step, number_step}
use Rattle.p8_finish.proofs.image.push_values.Goals as goal

pub loop-place-preserved : goal.loop-place-preserved
loop-place-preserved c =
    let here = number_step c.args.seed (400 + c.loop-place._place) (401 + c.loop-place._place) c.loop-place.last c.after-last.result c.loop-place.invariant.last c.after-last.ensures (omega arith) in record {
      items = map_step (λ (j : ℕ). number c.args.seed (401 + j)) c.loop-place._place _ _ _ c.loop-place.invariant.items (c.in_ok-push_long.ensures ∙ ap (λ (n : ℕ). c.loop-place.longs.items ++ n ∷ []) here);
      last = number_step c.args.seed (400 + c.loop-place._place) (400 + (c.loop-place._place + 1)) c.loop-place.last c.after-last.result c.loop-place.invariant.last c.after-last.ensures (omega arith);
    }
