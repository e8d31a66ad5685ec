use Rattle.std.proofs.Common.{◌≡◌, ◌++◌, drop}
use Rattle.std.specs.List.{flat_map}
use Rattle.p8_wave.specs.Sections.{change_text}
use Rattle.p8_wave.proofs.appending.push_changes.Given as goal

abbrev pub invariant-loop-entry : goal.invariant-loop-entry
invariant-loop-entry l =
    l.out.items ++ flat_map (change_text l.old l.new) (drop l.entry-index l.entries) ≡ l.initial.out.items ++ flat_map (change_text l.old l.new) l.entries
