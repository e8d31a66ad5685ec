use Rattle.std.proofs.Common.{◌≡◌, ◌++◌, drop, map}
use Rattle.p8_code.specs.Sources.{shown}
use Rattle.p8_code.proofs.source.push_shown.Given as goal

abbrev pub invariant-loop-c : goal.invariant-loop-c
invariant-loop-c l = l.out.items ++ map shown (drop l.c-index l.line) ≡ l.initial.out.items ++ map shown l.line
