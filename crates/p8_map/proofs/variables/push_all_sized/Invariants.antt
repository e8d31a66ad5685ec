use Rattle.std.proofs.Common.{◌≡◌, ◌++◌, drop}
use Rattle.p8_map.specs.Map.{sized_lines}
use Rattle.p8_map.proofs.variables.push_all_sized.Given as goal

abbrev pub invariant-loop-variable : goal.invariant-loop-variable
invariant-loop-variable l =
    l.out.items ++ sized_lines l.size l.place l.prefix l.rest (drop l.variable-index l.variables)
    ≡ l.initial.out.items ++ sized_lines l.size l.initial.place l.prefix l.initial.rest l.variables
