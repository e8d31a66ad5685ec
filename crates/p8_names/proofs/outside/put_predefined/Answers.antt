use Rattle.std.proofs.Common.{arith}
use Rattle.p8_fold.specs.ConstantEntries.{setting_of}
use Rattle.p8_names.proofs.Putting.{constants_begin, constants_more, constants_end}
use Rattle.p8_names.proofs.outside.put_predefined.Goals as goal

pub loop-at-init : goal.loop-at-init
loop-at-init c = (omega arith, constants_begin (setting_of c.args.consts.now) c.args.constants.now)

pub loop-at-preserved : goal.loop-at-preserved
loop-at-preserved c = (
  omega arith,
  constants_more c.args.constants.now c.loop-at.at c.index-constants-at.result c.loop-at-test.true c.loop-at.invariant.0 c.index-constants-at.is c.loop-at.invariant.1 c.in_ok-put_meaning.ensures,
)

pub returns : goal.returns
returns c = constants_end c.args.constants.now c.loop-at.at (omega arith) c.loop-at.invariant.1
