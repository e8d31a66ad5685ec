use Rattle.std.proofs.Common.{◌≡◌, take}
use Rattle.p8_tree.specs.Views.{trees_of, items_of}
use Rattle.p8_kinds.specs.Environments.{environment_of}
use Rattle.p8_kinds.specs.FirstMisuses.{rule_of, first_in_trees, first_in_items}
use Rattle.p8_kinds.proofs.expressions.+expressions.Given as goal

abbrev pub invariant-first_in_trees-loop-tree : goal.invariant-first_in_trees-loop-tree
invariant-first_in_trees-loop-tree l = l.first ≡ first_in_trees (rule_of l.rules (environment_of l.scope)) (trees_of (take l.tree-index l.trees))

abbrev pub invariant-first_in_items-loop-item : goal.invariant-first_in_items-loop-item
invariant-first_in_items-loop-item l = l.first ≡ first_in_items (rule_of l.rules (environment_of l.scope)) (items_of (take l.item-index l.items))
