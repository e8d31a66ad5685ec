use Rattle.std.proofs.Common.{◌≡◌, ◌++◌, map, take, drop}
use Rattle.p8_wave.specs.Sections.{marked, some_differ}
use Rattle.p8_wave.proofs.entries.mark_changes.Given as goal

abbrev pub invariant-loop-entry : goal.invariant-loop-entry
invariant-loop-entry l = record {
  any : l.any ≡ some_differ l.old l.new (take l.entry-index l.initial.entries);
  marked : l.entries ≡ map (marked l.old l.new) (take l.entry-index l.initial.entries) ++ drop l.entry-index l.initial.entries;
}
