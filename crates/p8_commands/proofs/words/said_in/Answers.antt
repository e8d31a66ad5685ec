use Rattle.std.proofs.Common.{◌∙◌, ap, map, string_bytes, sym}
use Rattle.clap.specs.Faults.{is_simple_and_free}
use Rattle.p8_commands.specs.Table.{app_for}
use Rattle.p8_commands.proofs.Reading.{command-said, nothing-said, rows-simple}
use Rattle.p8_commands.proofs.words.said_in.Goals as goal

pub matches_in-requires : goal.matches_in-requires
matches_in-requires c =
    ap is_simple_and_free (c.in_ok-command_for.ensures ∙ ap app_for c.row.ensures) ∙ rows-simple c.args.command

pub returns-in-None-clause-seen : goal.returns-in-None-clause-seen
returns-in-None-clause-seen c =
    sym (nothing-said c.args.command _ (map string_bytes c.args.words.now) c.in_ok-matches_in.field-0 (c.in_ok-command_for.ensures ∙ ap app_for c.row.ensures) c.in_ok-matches_in.ensures c.in-None.is)

pub returns-in-Some-clause-seen : goal.returns-in-Some-clause-seen
returns-in-Some-clause-seen c =
    c.meaning_in.ensures.seen
    ∙ sym (command-said c.args.command _ (map string_bytes c.args.words.now) c.in_ok-matches_in.field-0 c.in-Some.matches (c.in_ok-command_for.ensures ∙ ap app_for c.row.ensures) c.in_ok-matches_in.ensures c.in-Some.is)
