use Rattle.std.proofs.Common.{◌≡◌, ◌++◌, map, take}
use Rattle.p8_tree.specs.Views.{declared_of}
use Rattle.p8_print.specs.Spelled.{text_of_lines}
use Rattle.p8_print.specs.DeclarationWords.{words_of_variable}
use Rattle.p8_print.specs.Layout as layout
use Rattle.p8_print.proofs.printing.write_variables.Given as goal

abbrev pub invariant-loop-item : goal.invariant-loop-item
invariant-loop-item l = l.script ≡ l.initial.script ++ text_of_lines (map (λ x. layout.line 2 (words_of_variable x)) (map declared_of (take l.item-index l.items)))
