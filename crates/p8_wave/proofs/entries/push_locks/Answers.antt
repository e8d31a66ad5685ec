use Rattle.std.proofs.Common.{rules, ℕ, map}
use Rattle.p8_wave.specs.Variables.{lock_variables}
use Rattle.p8_wave.specs.Sections.{still}
use Rattle.p8_wave.proofs.Lists.{flat_map_step}
use Rattle.p8_wave.proofs.entries.push_locks.Goals as goal

pub loop-lock-preserved : goal.loop-lock-preserved
loop-lock-preserved c = flat_map_step (λ (n : ℕ). map still (lock_variables n)) c.loop-lock.lock _ _ _ c.loop-lock.invariant (search rules)
