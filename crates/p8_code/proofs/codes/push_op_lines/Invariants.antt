use Rattle.std.proofs.Common.{◌≡◌, ◌≤◌, ◌-◌, ◌++◌, length}
use Rattle.p8_image.specs.Listing.{pieces_of}
use Rattle.p8_code.specs.Listing.{op_lines}
use Rattle.p8_code.specs.Views.{scope_in}
use Rattle.p8_code.proofs.codes.push_op_lines.Given as goal

abbrev pub invariant-loop-lines : goal.invariant-loop-lines
invariant-loop-lines l = record {
  within : length l.rest ≤ length l.code;
  text : l.out.items ++ op_lines (λ text. text) (scope_in l.scope) (length l.code - length l.rest) l.place l.previous l.lines (pieces_of l.rest)
      ≡ l.initial.out.items ++ op_lines (λ text. text) (scope_in l.scope) 0 l.initial.place 0 l.initial.lines (pieces_of l.code);
}

abbrev pub decreases-loop-lines : goal.decreases-loop-lines
decreases-loop-lines l = length l.rest
