use Rattle.std.proofs.Common.{◌≡◌, length}
use Rattle.p8_code.specs.Operations.{text_used}
use Rattle.p8_code.proofs.operations.text_used.Given as goal

abbrev pub invariant-loop-uses : goal.invariant-loop-uses
invariant-loop-uses l = text_used l.uses l.texts l.at ≡ text_used l.initial.uses l.texts l.at

abbrev pub decreases-loop-uses : goal.decreases-loop-uses
decreases-loop-uses l = length l.uses
