use Rattle.std.proofs.Common.{◌≡◌, ap, subst, ℕ, suc, ◌-◌, ◌<◌, Bool, length, arith}
use Rattle.p8_access.specs.Worlds.{World}
use Rattle.p8_machine.specs.Machines.{world_in, past_in}
use Rattle.p8_machine.specs.Standing.{HasAdvanced}
use Rattle.p8_machine.proofs.run.Machine.run.Goals as goal

less : (limit count : ℕ) → count < limit → limit - suc count < limit - count
less limit count room = omega arith

pub steps-smaller : goal.steps-smaller
steps-smaller c =
    let limit : (world_in c.advance.new.self).turns ≡ (world_in c.steps.self).turns = ap (λ (w : World). w.turns) c.advance.ensures.world in
    let past = subst (λ (b : Bool). HasAdvanced b (past_in c.steps.self) (past_in c.advance.new.self)) c.steps-test.true c.advance.ensures.past in
    let count : length (past_in c.advance.new.self) ≡ suc (length (past_in c.steps.self)) = ap length past.1 in
    rw (limit, count) (less (world_in c.steps.self).turns (length (past_in c.steps.self)) (c.advance.ensures.room c.steps-test.true))
