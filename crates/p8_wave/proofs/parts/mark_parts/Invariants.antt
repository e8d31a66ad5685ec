use Rattle.std.proofs.Common.{◌≡◌, ◌++◌, map, take, drop}
use Rattle.std.specs.List.{list_any}
use Rattle.p8_wave.specs.Sections.{marked, some_differ}
use Rattle.p8_wave.proofs.parts.mark_parts.Given as goal

abbrev pub invariant-loop-part : goal.invariant-loop-part
invariant-loop-part l = record {
  any : l.any ≡ list_any (some_differ l.old l.new) (take l.part-index l.initial.parts);
  marked : l.parts ≡ map (map (marked l.old l.new)) (take l.part-index l.initial.parts) ++ drop l.part-index l.initial.parts;
}
