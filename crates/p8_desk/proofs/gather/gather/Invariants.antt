use Rattle.std.proofs.Common.{◌≡◌, ◌≤◌, ◌<◌, ℕ, length}
use Rattle.std.specs.Prelude.{slice_get}
use Rattle.p8_desk.specs.Gathering.{Gathered}
use Rattle.p8_desk.specs.PassSets.{IsOut}
use Rattle.p8_desk.proofs.gather.gather.Given as goal

abbrev pub invariant-loop-cog : goal.invariant-loop-cog
invariant-loop-cog l = record {
  table : l.seat.table_id ≡ l.fn.desk.table;
  rest : (n : ℕ) → l.cog ≤ n → slice_get l.passes n ≡ slice_get l.fn.passes n;
  out : (n : ℕ) → n < l.cog → IsOut n l.passes;
  room : length l.riders ≡ 8;
  gathered : Gathered l.fn.desk.world l.fn.passes l.riders l.cog l.seat.me;
}
