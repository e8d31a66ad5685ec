use Rattle.std.proofs.Common.{subst}
use Rattle.p8_fold.specs.ConstantEntries.{setting_of}
use Rattle.p8_kinds.specs.FileSettings.{HasEntered, named_constant}
use Rattle.p8_kinds.proofs.Tables.{constants_next}
use Rattle.p8_kinds.proofs.settings.enter_constants.Goals as goal

pub loop-constant-preserved : goal.loop-constant-preserved
loop-constant-preserved c =
    constants_next c.args.object.now c.args.constants.now c.loop-constant.constant-index c.constant-item.result c.loop-constant-test.true c.loop-constant.invariant
    (subst (λ x. HasEntered (setting_of c.loop-constant.consts) (setting_of c.enter_constant.new.consts) c.args.object.now (named_constant x)) c.constant-item.is c.in_ok-enter_constant.ensures)
