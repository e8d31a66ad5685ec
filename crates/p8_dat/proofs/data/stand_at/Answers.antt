use Rattle.std.proofs.Common.{Some, ap, ◌∙◌}
use Rattle.p8_fold.specs.ConstantEntries.{setting_of}
use Rattle.p8_fold.specs.Meanings.{outside_operands}
use Rattle.p8_dat.proofs.Settings.{stands_elsewhere}
use Rattle.p8_dat.proofs.data.stand_at.Goals as goal

pub returns : goal.returns
returns c =
    stands_elsewhere (setting_of c.args.values.now) (setting_of c.here.new.self) _ (c.here.ensures.here ∙ ap (λ v. outside_operands (Some v)) c.long.ensures) c.here.ensures.names
