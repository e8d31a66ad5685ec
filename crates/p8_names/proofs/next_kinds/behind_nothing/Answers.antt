use Rattle.p8_fold.specs.ConstantEntries.{setting_of}
use Rattle.p8_constants.specs.Standing.{item_of}
use Rattle.p8_names.proofs.Advancing.{nothing_more}
use Rattle.p8_names.proofs.next_kinds.behind_nothing.Goals as goal

pub returns : goal.returns
returns c = λ all before h. nothing_more (setting_of c.args.consts.now) all before (item_of c.args.item) c.args.next.now c.requires h
