use Rattle.std.proofs.Common.{◌≡◌, ◌+◌, ◌-◌, ◌*◌, ◌^◌, ◌≤◌}
use Rattle.p8_wave.specs.Scale.{tens}
use Rattle.p8_wave.proofs.scale.tens_of.Given as goal

abbrev pub invariant-loop-power : goal.invariant-loop-power
invariant-loop-power l = record {
  most : l.power ≤ 15;
  left : l.left * 10 ^ l.power ≡ l.fn.period;
  tens : tens 15 l.fn.period ≡ l.power + tens (15 - l.power) l.left;
}

abbrev pub decreases-loop-power : goal.decreases-loop-power
decreases-loop-power l = 15 - l.power
