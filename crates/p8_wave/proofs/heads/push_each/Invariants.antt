use Rattle.std.proofs.Common.{◌≡◌, ◌++◌, drop}
use Rattle.std.specs.List.{flat_map}
use Rattle.p8_wave.specs.Sections.{scope_of}
use Rattle.p8_wave.proofs.heads.push_each.Given as goal

abbrev pub invariant-loop-scope : goal.invariant-loop-scope
invariant-loop-scope l =
    l.out.items ++ flat_map (scope_of l.entries) (drop l.scope-index l.each) ≡ l.initial.out.items ++ flat_map (scope_of l.entries) l.each
