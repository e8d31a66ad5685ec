use Rattle.std.proofs.Common.{refl, arith}
use Rattle.p8_fold.specs.ConstantEntries.{setting_of}
use Rattle.p8_constants.specs.Names.{spelled}
use Rattle.p8_constants.specs.Standing.{all_defined_of}
use Rattle.p8_names.proofs.Showing.{hidden, keeps_begin, keeps_put, hide_more, hide_end}
use Rattle.p8_names.proofs.hiding.hide.Goals as goal

pub loop-defined-init : goal.loop-defined-init
loop-defined-init c = (λ n. refl, keeps_begin (setting_of c.args.consts.now))

pub loop-defined-preserved : goal.loop-defined-preserved
loop-defined-preserved c = (
  hide_more (hidden (setting_of c.args.consts.now) (spelled (all_defined_of c.args.names.now))) (setting_of c.loop-defined.consts) (setting_of c.put_meaning.new.consts) c.args.names.now c.loop-defined.defined-index c.defined-item.result
      (omega arith) c.defined-item.is c.in_ok-put_meaning.ensures c.loop-defined.invariant.0,
  keeps_put c.loop-defined.invariant.1 c.in_ok-put_meaning.ensures,
)

pub returns : goal.returns
returns c = hide_end (hidden (setting_of c.args.consts.now) (spelled (all_defined_of c.args.names.now))) (setting_of c.args.consts.now) (setting_of c.loop-defined.consts) c.args.names.now c.loop-defined.defined-index (omega arith) c.loop-defined.invariant.1 c.loop-defined.invariant.0
