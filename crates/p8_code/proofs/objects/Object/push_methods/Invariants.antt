use Rattle.std.proofs.Common.{◌≡◌, ◌++◌, length}
use Rattle.p8_code.specs.Steps.{cut_lines}
use Rattle.p8_code.specs.Views.{scope_with}
use Rattle.p8_code.proofs.objects.Object.push_methods.Given as goal

abbrev pub invariant-loop-names : goal.invariant-loop-names
invariant-loop-names l =
    l.out.items ++ cut_lines (scope_with l.self l.variables l.labels) l.number l.place l.rest l.names l.parts l.codes
    ≡ l.initial.out.items ++ cut_lines (scope_with l.self l.variables l.labels) 1 l.initial.place l.bytes l.initial.names l.initial.parts l.initial.codes

abbrev pub decreases-loop-names : goal.decreases-loop-names
decreases-loop-names l = length l.names
