use Rattle.std.proofs.Common.{◌≡◌, length, drop}
use Rattle.p8_explain.specs.Causes.{last_begin}
use Rattle.p8_explain.proofs.causes.last_begin.Given as goal

abbrev pub invariant-loop-at : goal.invariant-loop-at
invariant-loop-at l = last_begin l.found l.at l.before (drop l.at l.front) ≡ last_begin (length l.front) 0 0 l.front
