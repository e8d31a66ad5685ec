use Rattle.std.proofs.Common.{sym, subst}
use Rattle.p8_fold.specs.ConstantEntries.{setting_of}
use Rattle.p8_constants.specs.Rules.{HasWrongInstances}
use Rattle.p8_constants.specs.Standing.{item_of, IsFirstOf}
use Rattle.p8_constants.proofs.instances.instance_fault.Goals as goal

pub returns-in-Object : goal.returns-in-Object
returns-in-Object c = λ all h. subst (λ x. IsFirstOf c.wrong_instances.result (HasWrongInstances (setting_of c.args.consts.now) all (item_of x))) (sym c.in-Object.is) (c.wrong_instances.ensures all h)
