use Rattle.std.proofs.Common.{◌≡◌, drop}
use Rattle.p8_explain.specs.Standing.{begins_with}
use Rattle.p8_explain.proofs.standing.begins_with.Given as goal

abbrev pub invariant-loop-i : goal.invariant-loop-i
invariant-loop-i l = begins_with (drop l.i l.name) (drop l.i l.text) ≡ begins_with l.name l.text
