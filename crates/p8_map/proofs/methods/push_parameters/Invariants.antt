use Rattle.std.proofs.Common.{◌≡◌, ◌++◌, drop}
use Rattle.p8_map.specs.Map.{parameter_lines}
use Rattle.p8_map.proofs.methods.push_parameters.Given as goal

abbrev pub invariant-loop-name : goal.invariant-loop-name
invariant-loop-name l =
    l.out.items ++ parameter_lines l.offset (drop l.name-index l.parameters) ≡ l.initial.out.items ++ parameter_lines l.initial.offset l.parameters
