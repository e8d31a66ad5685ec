use Rattle.std.proofs.Common.{◌≡◌, ◌≤◌, drop}
use Rattle.p8_commands.proofs.Digits.{value_on}
use Rattle.p8_commands.proofs.numbers.value_of.Given as goal

abbrev pub invariant-loop-digit : goal.invariant-loop-digit
invariant-loop-digit l = record {
  value : value_on l.limit 0 l.digits ≡ value_on l.limit l.value (drop l.digit-index l.digits);
  below : l.value ≤ l.limit;
}
