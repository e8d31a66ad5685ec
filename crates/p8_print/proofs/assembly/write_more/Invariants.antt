use Rattle.std.proofs.Common.{◌≡◌, ◌++◌, map, take}
use Rattle.p8_tree.specs.Views.{datum_of}
use Rattle.p8_print.specs.Spelled.{text_of_words}
use Rattle.p8_print.specs.DataWords.{more_data}
use Rattle.p8_print.proofs.assembly.write_more.Given as goal

abbrev pub invariant-loop-item : goal.invariant-loop-item
invariant-loop-item l = l.script ≡ l.initial.script ++ text_of_words (more_data (map datum_of (take l.item-index l.items)))
