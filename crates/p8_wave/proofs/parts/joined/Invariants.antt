use Rattle.std.proofs.Common.{◌≡◌, ◌++◌, drop}
use Rattle.p8_wave.specs.Parts.{together}
use Rattle.p8_wave.proofs.parts.joined.Given as goal

abbrev pub invariant-loop-part : goal.invariant-loop-part
invariant-loop-part l = l.entries.items ++ together (drop l.part-index l.parts) ≡ together l.parts
