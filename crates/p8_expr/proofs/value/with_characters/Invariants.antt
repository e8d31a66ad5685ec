use Rattle.std.proofs.Common.{◌≡◌, length}
use Rattle.p8_tree.specs.Views.{items_of}
use Rattle.p8_grammar.specs.Grammar.{with_characters}
use Rattle.p8_expr.proofs.value.with_characters.Given as goal

abbrev pub invariant-loop-text : goal.invariant-loop-text
invariant-loop-text l = with_characters l.place l.text (items_of l.items.items) ≡ with_characters l.place l.initial.text (items_of l.initial.items.items)

abbrev pub decreases-loop-text : goal.decreases-loop-text
decreases-loop-text l = length l.text
