use Rattle.std.proofs.Common.{ap}
use Rattle.p8_tree.specs.Expressions.{node}
use Rattle.p8_tree.specs.Bridges.{strings_is}
use Rattle.p8_meaning.proofs.Trees.{copied-as}
use Rattle.p8_meaning.proofs.building.strings.Goals as goal

pub returns-clause-tree : goal.returns-clause-tree
returns-clause-tree c = copied-as c.new.result _ _ (ap (node c.args.place) (strings_is c.args.items)) c.new.ensures.tree
