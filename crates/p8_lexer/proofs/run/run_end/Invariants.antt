use Rattle.std.proofs.Common.{length, ◌-◌, ◌≤◌}
use Rattle.p8_lexer.specs.Lexing.{AllIn}
use Rattle.p8_lexer.proofs.run.run_end.Given as goal

abbrev pub invariant-loop-i : goal.invariant-loop-i
invariant-loop-i l = record { after : l.from ≤ l.i; within : l.i ≤ length l.text; all : AllIn l.class l.text l.from l.i }

abbrev pub decreases-loop-i : goal.decreases-loop-i
decreases-loop-i l = length l.text - l.i
