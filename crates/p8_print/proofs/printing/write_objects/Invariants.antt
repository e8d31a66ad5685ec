use Rattle.std.proofs.Common.{◌≡◌, ◌++◌, map, take}
use Rattle.p8_tree.specs.Views.{child_of}
use Rattle.p8_print.specs.Spelled.{text_of_lines}
use Rattle.p8_print.specs.DeclarationWords.{words_of_child}
use Rattle.p8_print.specs.Layout as layout
use Rattle.p8_print.proofs.printing.write_objects.Given as goal

abbrev pub invariant-loop-item : goal.invariant-loop-item
invariant-loop-item l = l.script ≡ l.initial.script ++ text_of_lines (map (λ x. layout.line 2 (words_of_child x)) (map child_of (take l.item-index l.items)))
