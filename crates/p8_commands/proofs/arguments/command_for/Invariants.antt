use Rattle.std.proofs.Common.{◌≡◌, drop}
use Rattle.std.specs.Prelude.{fold, map}
use Rattle.clap.specs.Simple.{app_of, with_rule}
use Rattle.p8_commands.specs.Seen.{argument_of, entry_in}
use Rattle.p8_commands.specs.Table.{app_for, rule_for}
use Rattle.p8_commands.proofs.arguments.command_for.Given as goal

abbrev pub invariant-loop-argument : goal.invariant-loop-argument
invariant-loop-argument l =
    fold with_rule (app_of l.command) (map rule_for (map argument_of (drop l.argument-index l.argument-items))) ≡ app_for (entry_in l.row)
