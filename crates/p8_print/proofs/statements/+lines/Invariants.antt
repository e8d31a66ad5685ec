use Rattle.std.proofs.Common.{◌≡◌, ◌++◌, take}
use Rattle.p8_tree.specs.Views.{statements_of, arms_of}
use Rattle.p8_print.specs.Layout.{lines_of_statements, lines_of_arms, lines_of_items}
use Rattle.p8_print.specs.Writing.{text_of}
use Rattle.p8_print.proofs.statements.+lines.Given as goal

abbrev pub invariant-write_arms-loop-i : goal.invariant-write_arms-loop-i
invariant-write_arms-loop-i l = l.script ≡ l.initial.script ++ text_of (lines_of_arms l.indent (arms_of (take l.i l.arms)))

abbrev pub invariant-write_items-loop-item : goal.invariant-write_items-loop-item
invariant-write_items-loop-item l = l.script ≡ l.initial.script ++ text_of (lines_of_items l.indent (arms_of (take l.item-index l.items)))

abbrev pub invariant-write_statements-loop-statement : goal.invariant-write_statements-loop-statement
invariant-write_statements-loop-statement l = l.script ≡ l.initial.script ++ text_of (lines_of_statements l.indent (statements_of (take l.statement-index l.statements)))
