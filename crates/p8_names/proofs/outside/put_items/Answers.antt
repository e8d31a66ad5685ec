use Rattle.std.proofs.Common.{arith}
use Rattle.p8_fold.specs.ConstantEntries.{setting_of}
use Rattle.p8_names.proofs.Putting.{items_begin, items_more, items_end}
use Rattle.p8_names.proofs.outside.put_items.Goals as goal

pub loop-at-init : goal.loop-at-init
loop-at-init c = (omega arith, items_begin (setting_of c.args.consts.now) c.args.items.now c.requires)

pub loop-at-preserved : goal.loop-at-preserved
loop-at-preserved c = (
  omega arith,
  items_more c.args.items.now c.loop-at.at c.index-items-at.result c.loop-at-test.true c.loop-at.invariant.0 c.index-items-at.is c.loop-at.invariant.1 c.in_ok-put_item.ensures,
)

pub returns : goal.returns
returns c = items_end c.args.items.now c.loop-at.at (omega arith) c.loop-at.invariant.1
