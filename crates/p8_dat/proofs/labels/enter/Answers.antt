use Rattle.std.proofs.Common.{sym, ap, ◌∙◌}
use Rattle.p8_fold.specs.ConstantEntries.{setting_of}
use Rattle.p8_dat.specs.Names.{with_label}
use Rattle.p8_dat.proofs.Settings.{name_entered}
use Rattle.p8_dat.proofs.labels.enter.Goals as goal

pub returns-in_ok-set-in-Some : goal.returns-in_ok-set-in-Some
returns-in_ok-set-in-Some c =
    name_entered (setting_of c.args.consts.now) (setting_of c.set.new.self) _ c.args.meaning c.in_ok-set-in-Some.ensures.entered c.set.ensures.others c.set.ensures.here
    ∙ ap (λ label. with_label label c.args.meaning (setting_of c.args.consts.now)) (sym c.in-Some.is)
