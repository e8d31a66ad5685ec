use Rattle.std.proofs.Common.{◌≡◌, length, take}
use Rattle.p8_report.proofs.clocks.padded.Given as goal

abbrev pub invariant-loop-digit : goal.invariant-loop-digit
invariant-loop-digit l = record {
  length : length l.digits ≡ 16;
  count : l.count ≡ l.digit-index;
  digits : take l.count l.digits ≡ take l.digit-index l.text;
}
