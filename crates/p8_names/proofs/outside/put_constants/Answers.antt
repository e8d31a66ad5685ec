use Rattle.std.proofs.Common.{arith}
use Rattle.p8_fold.specs.ConstantEntries.{setting_of}
use Rattle.p8_names.proofs.Putting.{behind_begin, behind_more, behind_end}
use Rattle.p8_names.proofs.outside.put_constants.Goals as goal

pub loop-at-init : goal.loop-at-init
loop-at-init c = (omega arith, behind_begin (setting_of c.args.consts.now) c.args.owner.now c.args.constants.now)

pub loop-at-preserved : goal.loop-at-preserved
loop-at-preserved c = (
  omega arith,
  behind_more (setting_of c.set.new.self) c.args.owner.now c.args.constants.now c.loop-at.at c.index-constants-at.result c.loop-at-test.true c.loop-at.invariant.0 c.index-constants-at.is c.loop-at.invariant.1
      c.in_ok-set.ensures.entered c.set.ensures.others c.set.ensures.here,
)

pub returns : goal.returns
returns c = behind_end c.args.owner.now c.args.constants.now c.loop-at.at (omega arith) c.loop-at.invariant.1
