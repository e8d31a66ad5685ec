use Rattle.std.proofs.Common.{◌≡◌, ◌≤◌, ◌+◌, ◌++◌}
use Rattle.p8_code.specs.Images.{inner_lines}
use Rattle.p8_code.proofs.images.push_inner_lines.Given as goal

abbrev pub invariant-loop-left : goal.invariant-loop-left
invariant-loop-left l = record {
  few : l.number + l.left ≤ 512;
  text : l.out.items ++ inner_lines l.base l.object l.number l.left ≡ l.initial.out.items ++ inner_lines l.base l.object l.first l.initial.left;
}

abbrev pub decreases-loop-left : goal.decreases-loop-left
decreases-loop-left l = l.left
