use Rattle.std.proofs.Common.{◌≡◌, ◌≤◌, ◌<◌, ℕ}
use Rattle.std.specs.Prelude.{slice_get}
use Rattle.p8_desk.specs.PassSets.{IsOut}
use Rattle.p8_desk.specs.Rules.{known}
use Rattle.p8_desk.specs.Seats.{Idle}
use Rattle.p8_desk.proofs.Scattering.{IsBack}
use Rattle.p8_desk.proofs.gather.scatter.Given as goal

abbrev pub invariant-loop-cog : goal.invariant-loop-cog
invariant-loop-cog l = record {
  table : l.seat.table_id ≡ l.fn.desk.table;
  idle : Idle l.fn.desk.world l.seat.me;
  has : (n : ℕ) → l.cog ≤ n → known l.seat.me.0.passes n ≡ known l.fn.seat.me.0.passes n;
  rest : (n : ℕ) → l.cog ≤ n → slice_get l.riders n ≡ slice_get l.fn.riders n;
  out : (n : ℕ) → l.cog ≤ n → n < 8 → IsOut n l.passes;
  back : (n : ℕ) → n < l.cog → IsBack l.fn.desk l.fn.riders l.passes n;
}
