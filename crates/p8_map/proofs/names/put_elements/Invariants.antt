use Rattle.std.proofs.Common.{◌≡◌, ◌++◌, ◌-◌}
use Rattle.p8_map.specs.Names.{element_names}
use Rattle.p8_map.proofs.names.put_elements.Given as goal

abbrev pub invariant-loop-index : goal.invariant-loop-index
invariant-loop-index l = l.names ++ element_names l.name l.index (l.count - l.index) ≡ l.initial.names ++ element_names l.name 0 l.count
