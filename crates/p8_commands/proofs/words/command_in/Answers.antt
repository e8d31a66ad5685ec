use Rattle.std.proofs.Common.{◌∙◌, ap, None, Some, string_bytes, sym}
use Rattle.std.proofs.lemmas.Result.{IfOk-weaker}
use Rattle.p8_commands.specs.Table.{subcommand_named}
use Rattle.p8_commands.proofs.Reading.{no-words, row-chosen}
use Rattle.p8_commands.proofs.words.command_in.Goals as goal

pub returns-in_default-clause-seen : goal.returns-in_default-clause-seen
returns-in_default-clause-seen c = sym (no-words string_bytes c.args.words.now c.in_default.len_below)

pub returns-in-None-clause-seen : goal.returns-in-None-clause-seen
returns-in-None-clause-seen c =
    sym (row-chosen string_bytes c.args.words.now c.word-item.result None c.in-len1-up.len_at_least c.word-item.is (ap subcommand_named (sym c.as_str.ensures.value) ∙ sym c.named.ensures ∙ c.in-None.is))

pub returns-in-Some-clause-seen : goal.returns-in-Some-clause-seen
returns-in-Some-clause-seen c =
    let chosen = row-chosen string_bytes c.args.words.now c.word-item.result (Some c.in-Some.command) c.in-len1-up.len_at_least c.word-item.is (ap subcommand_named (sym c.as_str.ensures.value) ∙ sym c.named.ensures ∙ c.in-Some.is) in
    IfOk-weaker c.said_in.result _ _ (λ said seen. seen ∙ sym chosen) c.said_in.ensures.seen
