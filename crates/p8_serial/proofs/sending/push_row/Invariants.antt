use Rattle.std.proofs.Common.{◌≡◌, ◌+◌, ◌*◌, ◌≤◌, ◌++◌, drop, flat_map, true}
use Rattle.p8_serial.specs.Typed.{line_text, lines_from}
use Rattle.p8_serial.proofs.sending.push_row.Given as goal

abbrev pub invariant-loop-bit : goal.invariant-loop-bit
invariant-loop-bit l = record {
  lines : l.out.items ++ flat_map line_text (lines_from l.pin l.bits l.clock l.before (drop l.bit-index l.row)) ≡ l.fn.out.items ++ flat_map line_text (lines_from l.pin l.bits l.start true l.row);
  clock : l.clock ≤ l.start + 10000 * l.bit-index;
}
