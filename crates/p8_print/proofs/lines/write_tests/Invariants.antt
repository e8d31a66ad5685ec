use Rattle.std.proofs.Common.{◌≡◌, ◌++◌, take}
use Rattle.p8_tree.specs.Views.{items_of}
use Rattle.p8_print.specs.Spelled.{text_of_words}
use Rattle.p8_print.specs.StatementWords.{words_of_tests}
use Rattle.p8_print.proofs.lines.write_tests.Given as goal

abbrev pub invariant-loop-i : goal.invariant-loop-i
invariant-loop-i l = l.script ≡ l.initial.script ++ text_of_words (words_of_tests (items_of (take l.i l.tests)))
