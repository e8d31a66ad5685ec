use Rattle.p8_tree.specs.Views.{arms_of}
use Rattle.p8_meaning.proofs.Bodies.{chosen-is}
use Rattle.p8_meaning.proofs.chains.ended.Goals as goal

pub returns : goal.returns
returns c = chosen-is (arms_of c.args.arms.items) c.args.arm
