use Rattle.std.proofs.Common.{◌≡◌, ◌+◌, ◌++◌, drop}
use Rattle.p8_image.specs.Cutting.{cut_lines}
use Rattle.p8_image.proofs.objects.push_method_lines.Given as goal

abbrev pub invariant-loop-index : goal.invariant-loop-index
invariant-loop-index l =
    l.out.items ++ cut_lines (l.index + 1) l.place l.rest (drop l.index l.methods) ≡ l.initial.out.items ++ cut_lines 1 l.initial.place l.initial.rest l.methods
