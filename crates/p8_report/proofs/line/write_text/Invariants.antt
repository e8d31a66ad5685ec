use Rattle.std.proofs.Common.{◌≡◌, ◌+◌, ◌++◌, take}
use Rattle.p8_report.proofs.line.write_text.Given as goal

abbrev pub invariant-loop-byte : goal.invariant-loop-byte
invariant-loop-byte l = record {
  end : l.end ≡ l.fn.at + l.byte-index;
  text : take l.end l.page ≡ take l.fn.at l.initial.page ++ take l.byte-index l.text;
}
