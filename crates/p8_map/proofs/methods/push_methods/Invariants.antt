use Rattle.std.proofs.Common.{◌≡◌, ◌+◌, ◌++◌, drop}
use Rattle.p8_map.specs.Map.{method_lines}
use Rattle.p8_map.proofs.methods.push_methods.Given as goal

abbrev pub invariant-loop-index : goal.invariant-loop-index
invariant-loop-index l =
    l.out.items ++ method_lines l.place (l.index + 1) l.rest (drop l.index l.methods) ≡ l.initial.out.items ++ method_lines l.initial.place 1 l.initial.rest l.methods
