use Rattle.std.proofs.Common.{◌≡◌, ◌++◌, drop}
use Rattle.std.specs.List.{flat_map}
use Rattle.p8_wave.specs.Sections.{declared_in}
use Rattle.p8_wave.proofs.appending.push_declarations.Given as goal

abbrev pub invariant-loop-entry : goal.invariant-loop-entry
invariant-loop-entry l =
    l.out.items ++ flat_map (declared_in l.scope) (drop l.entry-index l.entries) ≡ l.initial.out.items ++ flat_map (declared_in l.scope) l.entries
