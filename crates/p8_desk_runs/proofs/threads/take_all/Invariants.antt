use Rattle.std.proofs.Common.{◌≡◌, ◌≤◌, ◌<◌, ℕ, length}
use Rattle.std.specs.Prelude.{slice_get}
use Rattle.p8_desk.specs.PassSets.{IsOut}
use Rattle.p8_desk_runs.proofs.threads.take_all.Given as goal

abbrev pub invariant-loop-cog : goal.invariant-loop-cog
invariant-loop-cog l = record {
  same : (n : ℕ) → n < l.cog → slice_get l.places n ≡ slice_get l.fn.passes n;
  rest : (n : ℕ) → l.cog ≤ n → slice_get l.passes n ≡ slice_get l.fn.passes n;
  out : (n : ℕ) → n < l.cog → IsOut n l.passes;
  room : length l.places ≡ 8;
}
