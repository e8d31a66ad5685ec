use Rattle.std.proofs.Common.{◌≡◌, ◌+◌, ◌*◌, ◌≤◌, ◌++◌, drop, flat_map, true}
use Rattle.p8_serial.specs.Typed.{line_text, lines_from, frame_of, typed_text}
use Rattle.p8_serial.proofs.sending.typed.Given as goal

abbrev pub invariant-loop-byte : goal.invariant-loop-byte
invariant-loop-byte l = record {
  lines : l.out.items ++ flat_map line_text (lines_from l.pin l.bits l.clock true (flat_map frame_of (drop l.byte-index l.bytes))) ≡ typed_text l.bytes l.pin l.bits l.start;
  clock : l.clock ≤ l.start + 100000 * l.byte-index;
}
