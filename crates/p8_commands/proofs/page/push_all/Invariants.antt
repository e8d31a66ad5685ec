use Rattle.std.proofs.Common.{◌≡◌, ◌++◌, drop, None}
use Rattle.std.specs.List.{flat_map}
use Rattle.p8_commands.specs.Pages.{help_text, summary_of}
use Rattle.p8_commands.proofs.page.push_all.Given as goal

abbrev pub invariant-loop-command : goal.invariant-loop-command
invariant-loop-command l =
    l.out.items ++ flat_map summary_of (drop l.command-index l.command-items) ≡ l.fn.out.items ++ help_text None
