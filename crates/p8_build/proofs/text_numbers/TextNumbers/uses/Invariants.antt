use Rattle.std.proofs.Common.{◌≡◌, map, take}
use Rattle.p8_build.specs.Numbers.{number_by, use_by}
use Rattle.p8_build.proofs.text_numbers.TextNumbers.uses.Given as goal

abbrev pub invariant-loop-string : goal.invariant-loop-string
invariant-loop-string l = l.uses ≡ map (use_by (number_by l.self)) (take l.string-index l.strings)
