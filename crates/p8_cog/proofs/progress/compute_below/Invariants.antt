use Rattle.std.proofs.Common.{ℕ, ◌+◌, ◌-◌, ◌*◌, ◌<◌, ◌≤◌, ◌^◌, []}
use Rattle.p8_cog.specs.Replay.{Goes}
use Rattle.p8_cog.specs.Stops.{Leads}
use Rattle.p8_cog.proofs.progress.compute_below.Given as goal

abbrev pub invariant-loop-left : goal.invariant-loop-left
invariant-loop-left l = record {
  left : l.left ≤ l.fn.budget;
  leads : (cog : ℕ) → Leads cog (l.fn.budget - l.left) (Goes l.fn.state []) (Goes l.state []);
  at : l.state.at < 512;
  clock : l.state.clock < 2 ^ 62 + 2 ^ 10;
  counts : l.fn.state.clock + 4 * (l.fn.budget - l.left) ≤ l.state.clock;
  stride : l.state.clock ≤ l.fn.state.clock + 8 * (l.fn.budget - l.left);
}

abbrev pub decreases-loop-left : goal.decreases-loop-left
decreases-loop-left l = l.left
