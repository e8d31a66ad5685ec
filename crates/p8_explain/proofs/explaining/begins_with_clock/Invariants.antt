use Rattle.std.proofs.Common.{◌≡◌, false, drop}
use Rattle.p8_explain.specs.Explaining.{begins_with_clock}
use Rattle.p8_explain.proofs.explaining.begins_with_clock.Given as goal

abbrev pub invariant-loop-c : goal.invariant-loop-c
invariant-loop-c l = begins_with_clock l.in_comment (drop l.c-index l.text) ≡ begins_with_clock false l.text
