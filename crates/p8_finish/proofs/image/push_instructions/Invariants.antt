use Rattle.std.proofs.Common.{◌≡◌, ◌++◌}
use Rattle.p8_finish.specs.Made.{number, instr_longs}
use Rattle.p8_finish.proofs.image.push_instructions.Given as goal

abbrev pub invariant-loop-place : goal.invariant-loop-place
invariant-loop-place l = record {
  items : l.longs.items ≡ l.fn.longs.items ++ instr_longs l.fn.seed l._place;
  last : l.last ≡ number l.fn.seed l._place;
}
