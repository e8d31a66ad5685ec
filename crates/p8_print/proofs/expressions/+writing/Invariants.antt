use Rattle.std.proofs.Common.{◌≡◌, ◌++◌, take}
use Rattle.p8_tree.specs.Views.{trees_of, items_of}
use Rattle.p8_print.specs.Spelled.{text_of_words}
use Rattle.p8_print.specs.Writing.{arguments_begun, choices_begun}
use Rattle.p8_print.proofs.expressions.+writing.Given as goal

abbrev pub invariant-write_arguments-loop-i : goal.invariant-write_arguments-loop-i
invariant-write_arguments-loop-i l = l.script ≡ l.initial.script ++ text_of_words (arguments_begun (trees_of (take l.i l.arguments)))

abbrev pub invariant-write_choices-loop-i : goal.invariant-write_choices-loop-i
invariant-write_choices-loop-i l = l.script ≡ l.initial.script ++ text_of_words (choices_begun (items_of (take l.i l.items)))
