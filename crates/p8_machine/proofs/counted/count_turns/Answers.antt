use Rattle.std.proofs.Common.{◌≡◌, ◌∙◌, ap, ℕ, suc, ◌-◌, ◌<◌, length, arith}
use Rattle.p8_access.specs.Worlds.{World}
use Rattle.p8_machine.proofs.Turning.{counted-more}
use Rattle.p8_machine.specs.Machines.{world_in, past_in}
use Rattle.p8_machine.proofs.counted.count_turns.Goals as goal

pub steps-preserved : goal.steps-preserved
steps-preserved c = record {
  stands = c.step_counted.ensures.stands c.steps.invariant.stands;
  world = c.step_counted.ensures.world ∙ c.steps.invariant.world;
  counted =
      let made = c.in-Some.ensures.counted c.steps.invariant.stands in
      counted-more (world_in c.steps.machine) (world_in c.step_counted.new.self) (past_in c.steps.machine) (past_in c.step_counted.new.self) made.0 c.steps.counters.items c.push.new.self.items c.in-Some.counter c.step_counted.ensures.world made.1 c.in-Ok.ensures.items made.3 c.steps.invariant.counted;
}

less : (limit count : ℕ) → count < limit → limit - suc count < limit - count
less limit count room = omega arith

pub steps-smaller : goal.steps-smaller
steps-smaller c =
    let limit : (world_in c.step_counted.new.self).turns ≡ (world_in c.steps.machine).turns = ap (λ (w : World). w.turns) c.step_counted.ensures.world in
    let count : length (past_in c.step_counted.new.self) ≡ suc (length (past_in c.steps.machine)) = ap length c.in-Some.ensures.past.1 in
    rw (limit, count) (less (world_in c.steps.machine).turns (length (past_in c.steps.machine)) c.in-Some.ensures.room)
