use Rattle.std.proofs.Common.{◌≡◌, ◌+◌, drop}
use Rattle.p8_explain.specs.Causes.{spaces}
use Rattle.p8_explain.proofs.causes.spaces.Given as goal

abbrev pub invariant-loop-c : goal.invariant-loop-c
invariant-loop-c l = (l.count ≡ l.c-index) × (l.count + spaces (drop l.c-index l.text) ≡ spaces l.text)
