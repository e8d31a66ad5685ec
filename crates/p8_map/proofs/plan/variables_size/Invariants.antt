use Rattle.std.proofs.Common.{◌≡◌, ◌+◌, ◌%◌, drop}
use Rattle.p8_image.specs.Layout.{total, variable_size}
use Rattle.p8_map.proofs.plan.variables_size.Given as goal

abbrev pub invariant-loop-variable : goal.invariant-loop-variable
invariant-loop-variable l = (l.bytes + total variable_size (drop l.variable-index l.variables)) % 65536 ≡ total variable_size l.variables % 65536
