use Rattle.std.proofs.Common.{◌≡◌, ◌++◌, drop}
use Rattle.p8_map.specs.Map.{local_lines}
use Rattle.p8_map.proofs.methods.push_locals.Given as goal

abbrev pub invariant-loop-local : goal.invariant-loop-local
invariant-loop-local l =
    l.out.items ++ local_lines l.offset (drop l.local-index l.locals) ≡ l.initial.out.items ++ local_lines l.initial.offset l.locals
