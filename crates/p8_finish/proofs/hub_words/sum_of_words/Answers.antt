use Rattle.std.proofs.Common.{◌+◌, ◌*◌, ℕ, refl, arith}
use Rattle.p8_access.specs.declared.kinds.Width.TheVariants.{Long}
use Rattle.p8_access.specs.Hub.{value_at}
use Rattle.p8_finish.proofs.Sums.{sum_step, words_whole}
use Rattle.p8_finish.proofs.hub_words.sum_of_words.Goals as goal

pub loop-place-preserved : goal.loop-place-preserved
loop-place-preserved c = λ w past h.
    sum_step (λ (j : ℕ). value_at w past Long (4096 + 4 * j)) c.loop-place.place _ _ _ (c.loop-place.invariant w past h) (c.long_at-sum.ensures w past h) refl

pub returns : goal.returns
returns c = λ w past h. words_whole w past c.loop-place.place _ (omega arith) (c.loop-place.invariant w past h)
