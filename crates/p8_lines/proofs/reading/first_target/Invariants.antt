use Rattle.p8_lines.proofs.Targets.{Skipped}
use Rattle.p8_lines.proofs.reading.first_target.Given as goal

abbrev pub invariant-loop-arrow : goal.invariant-loop-arrow
invariant-loop-arrow l = Skipped l.arrows l.arrow-index l.word l.length
