use Rattle.std.proofs.Common.{◌≡◌, drop}
use Rattle.std.specs.Prelude.{find}
use Rattle.std.specs.Str.{bytes_eq}
use Rattle.p8_commands.specs.declared.table.Subcommand.{Subcommand}
use Rattle.p8_commands.specs.Table.{entry_of}
use Rattle.p8_commands.proofs.table.Subcommand.named.Given as goal

abbrev pub invariant-loop-command : goal.invariant-loop-command
invariant-loop-command l =
    find (λ (command : Subcommand). bytes_eq (entry_of command).word l.word) l.command-items
    ≡ find (λ (command : Subcommand). bytes_eq (entry_of command).word l.word) (drop l.command-index l.command-items)
