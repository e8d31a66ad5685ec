use Rattle.std.proofs.Common.{◌≡◌, ◌++◌, drop}
use Rattle.std.specs.List.{flat_map}
use Rattle.p8_wave.specs.Sections.{entry_text}
use Rattle.p8_wave.proofs.appending.push_values.Given as goal

abbrev pub invariant-loop-entry : goal.invariant-loop-entry
invariant-loop-entry l =
    l.out.items ++ flat_map (entry_text l.snapshot) (drop l.entry-index l.entries) ≡ l.initial.out.items ++ flat_map (entry_text l.snapshot) l.entries
