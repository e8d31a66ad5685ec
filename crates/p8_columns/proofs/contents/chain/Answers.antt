use Rattle.p8_tree.specs.Views.{arm_of}
use Rattle.p8_columns.proofs.Steps.{chain_kind}
use Rattle.p8_columns.proofs.contents.chain.Goals as goal

pub returns : goal.returns
returns c = chain_kind c.in_ok-arms.arms c.new.result.items (arm_of c.args.arm) c.new.ensures.items c.in_ok-arms.ensures
