use Rattle.std.proofs.Common.{Some, None, ◌∙◌, sym, ap}
use Rattle.std.specs.Option.{option_copied}
use Rattle.p8_fold.specs.ConstantEntries.{setting_of}
use Rattle.p8_kinds.proofs.Tables.{no_names}
use Rattle.p8_kinds.proofs.settings.consts_of.Goals as goal

pub enter_meanings-requires-clause-no_name : goal.enter_meanings-requires-clause-no_name
enter_meanings-requires-clause-no_name c = λ n. c.new-consts.ensures.empty None n

pub enter_meanings-requires-clause-no_constant : goal.enter_meanings-requires-clause-no_constant
enter_meanings-requires-clause-no_constant c = λ o n. c.new-consts.ensures.empty (Some o) n

pub returns-in-None : goal.returns-in-None
returns-in-None c =
    no_names c.args.kinds.now c.args.children.now (setting_of c.new-consts.result) c.new-consts.ensures.here (sym c.of_file.ensures ∙ ap option_copied c.in-None.is) c.new-consts.ensures.empty
