use Rattle.std.proofs.Common.{◌≡◌, ◌++◌, take}
use Rattle.p8_print.specs.Spelled.{text_of_words}
use Rattle.p8_print.specs.DeclarationWords.{more_names}
use Rattle.p8_print.proofs.declarations.write_more_names.Given as goal

abbrev pub invariant-loop-name : goal.invariant-loop-name
invariant-loop-name l = l.script ≡ l.initial.script ++ text_of_words (more_names (take l.name-index l.names))
