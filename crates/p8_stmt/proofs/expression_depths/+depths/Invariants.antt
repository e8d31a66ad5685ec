use Rattle.std.proofs.Common.{◌≡◌, take}
use Rattle.p8_tree.specs.Views.{trees_of, items_of}
use Rattle.p8_gen.specs.Depths.{held_by_trees, held_by_items}
use Rattle.p8_gen.specs.Scopes.{names_of}
use Rattle.p8_stmt.specs.Cutting.{cut}
use Rattle.p8_stmt.proofs.expression_depths.+depths.Given as goal

abbrev pub invariant-held_by_trees-loop-index : goal.invariant-held_by_trees-loop-index
invariant-held_by_trees-loop-index l = l.most ≡ cut (held_by_trees (names_of l.coder) (trees_of (take l.index l.arguments)))

abbrev pub invariant-held_by_items-loop-item : goal.invariant-held_by_items-loop-item
invariant-held_by_items-loop-item l = l.most ≡ cut (held_by_items (names_of l.coder) (items_of (take l.item-index l.items)))
