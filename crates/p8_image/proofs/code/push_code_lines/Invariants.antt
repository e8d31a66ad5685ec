use Rattle.std.proofs.Common.{◌≡◌, ◌++◌, length}
use Rattle.p8_image.specs.Listing.{code_lines}
use Rattle.p8_image.proofs.code.push_code_lines.Given as goal

abbrev pub invariant-loop-rest : goal.invariant-loop-rest
invariant-loop-rest l = l.out.items ++ code_lines l.place l.rest ≡ l.initial.out.items ++ code_lines l.initial.place l.initial.rest

abbrev pub decreases-loop-rest : goal.decreases-loop-rest
decreases-loop-rest l = length l.rest
