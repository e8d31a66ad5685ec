use Rattle.std.proofs.Common.{◌≡◌, ◌+◌, length}
use Rattle.p8_map.specs.Stretches.{quotables}
use Rattle.p8_map.proofs.strings.quotables.Given as goal

abbrev pub invariant-loop-text : goal.invariant-loop-text
invariant-loop-text l = record {
  counted : l.count + quotables l.text ≡ quotables l.initial.text;
  within : l.count + length l.text ≡ length l.initial.text;
}

abbrev pub decreases-loop-text : goal.decreases-loop-text
decreases-loop-text l = length l.text
