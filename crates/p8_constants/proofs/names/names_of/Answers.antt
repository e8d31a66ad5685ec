use Rattle.std.proofs.Common.{arith}
use Rattle.p8_constants.specs.Standing.{all_defined_of}
use Rattle.p8_constants.proofs.Listed.{names_next, names_end}
use Rattle.p8_constants.proofs.names.names_of.Goals as goal

pub loop-item-preserved : goal.loop-item-preserved
loop-item-preserved c =
    names_next c.args.items.now c.loop-item.item-index c.item-item.result _ (all_defined_of c.loop-item.names.items) (all_defined_of c.put_name.new.names.items)
    (omega arith) c.item-item.is c.loop-item.invariant c.in_ok-put_name.ensures

pub returns : goal.returns
returns c = names_end c.args.items.now c.loop-item.item-index _ (all_defined_of c.loop-item.names.items) (omega arith) c.loop-item.invariant
