use Rattle.std.proofs.Common.{sym, subst, Some}
use Rattle.p8_fold.specs.ConstantEntries.{setting_of}
use Rattle.p8_names.specs.Changes.{IsPut}
use Rattle.p8_names.proofs.Putting.{on_ok, is_put}
use Rattle.p8_names.proofs.outside.put_meaning.Goals as goal

pub returns-in-Some : goal.returns-in-Some
returns-in-Some c =
    on_ok c.set.result
    (λ entered. subst (IsPut (setting_of c.args.consts.now) (setting_of c.set.new.self) (Some c.args.name.now)) (sym c.in-Some.is)
    (is_put (setting_of c.args.consts.now) (setting_of c.set.new.self) c.args.name.now (Some c.in-Some.meaning) entered c.set.ensures.others c.set.ensures.here))
    c.set.ensures.entered

pub returns-in-None : goal.returns-in-None
returns-in-None c =
    subst (IsPut (setting_of c.args.consts.now) (setting_of c.forget.new.self) (Some c.args.name.now)) (sym c.in-None.is)
    (is_put (setting_of c.args.consts.now) (setting_of c.forget.new.self) c.args.name.now _ c.forget.ensures.gone c.forget.ensures.others c.forget.ensures.here)
