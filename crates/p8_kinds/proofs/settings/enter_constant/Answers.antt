use Rattle.std.proofs.Common.{◌≡◌, false, rules}
use Rattle.std.specs.Prelude.{is_some}
use Rattle.std.proofs.lemmas.Result.{on_ok_weaker}
use Rattle.p8_fold.specs.ConstantEntries.{setting_of}
use Rattle.p8_kinds.proofs.Tables.{constant_set}
use Rattle.p8_kinds.proofs.settings.enter_constant.Goals as goal

pub returns : goal.returns
returns c =
    let s = setting_of c.args.consts.now in
    let none : is_some (s.constant c.args.object.now c.args.constant.now.name) ≡ false = search rules in
    on_ok_weaker c.set.result (λ is. constant_set s (setting_of c.set.new.self) c.args.object.now c.args.constant.now none is c.set.ensures.others c.set.ensures.here) c.set.ensures.entered
