use Rattle.std.proofs.Common.{◌≡◌, ◌++◌, drop}
use Rattle.std.specs.List.{flat_map}
use Rattle.p8_wave.specs.Sections.{change_text}
use Rattle.p8_wave.specs.Parts.{together}
use Rattle.p8_wave.proofs.parts.push_parts.Given as goal

abbrev pub invariant-loop-part : goal.invariant-loop-part
invariant-loop-part l =
    l.out.items ++ flat_map (flat_map (change_text l.old l.new)) (drop l.part-index l.parts) ≡ l.initial.out.items ++ flat_map (change_text l.old l.new) (together l.parts)
