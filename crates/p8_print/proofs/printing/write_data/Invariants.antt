use Rattle.std.proofs.Common.{◌≡◌, ◌++◌, map, take}
use Rattle.p8_tree.specs.Views.{line_of}
use Rattle.p8_print.specs.Spelled.{text_of_lines}
use Rattle.p8_print.specs.DataWords.{words_of_line}
use Rattle.p8_print.specs.Layout as layout
use Rattle.p8_print.proofs.printing.write_data.Given as goal

abbrev pub invariant-loop-line : goal.invariant-loop-line
invariant-loop-line l = l.script ≡ l.initial.script ++ text_of_lines (map (λ x. layout.line 2 (words_of_line x)) (map line_of (take l.line-index l.lines)))
