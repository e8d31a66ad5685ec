use Rattle.std.proofs.Common.{ap}
use Rattle.p8_tree.specs.Expressions.{node}
use Rattle.p8_tree.specs.Bridges.{built_is}
use Rattle.p8_meaning.proofs.Trees.{copied-as}
use Rattle.p8_meaning.proofs.building.built.Goals as goal

pub returns-clause-tree : goal.returns-clause-tree
returns-clause-tree c = copied-as c.new.result _ _ (ap (node c.args.place) (built_is c.args.code c.args.arguments)) c.new.ensures.tree
