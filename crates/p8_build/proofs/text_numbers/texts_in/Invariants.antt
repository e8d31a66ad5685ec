use Rattle.std.proofs.Common.{◌≡◌, map, take}
use Rattle.p8_fold.specs.ConstantEntries.{setting_of}
use Rattle.p8_build.specs.Numbers.{text_of}
use Rattle.p8_build.specs.Parts.{text_in}
use Rattle.p8_build.proofs.text_numbers.texts_in.Given as goal

abbrev pub invariant-loop-string : goal.invariant-loop-string
invariant-loop-string l = l.texts ≡ map (λ x. text_in (setting_of l.consts) (text_of x).1) (take l.string-index l.strings)
