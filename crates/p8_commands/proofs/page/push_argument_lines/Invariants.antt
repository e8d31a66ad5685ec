use Rattle.std.proofs.Common.{◌≡◌, ◌++◌, drop}
use Rattle.std.specs.Prelude.{map}
use Rattle.std.specs.List.{flat_map}
use Rattle.p8_commands.specs.Pages.{argument_line}
use Rattle.p8_commands.specs.Seen.{argument_of}
use Rattle.p8_commands.proofs.page.push_argument_lines.Given as goal

abbrev pub invariant-loop-argument : goal.invariant-loop-argument
invariant-loop-argument l =
    l.out.items ++ flat_map argument_line (map argument_of (drop l.argument-index l.arguments)) ≡ l.fn.out.items ++ flat_map argument_line (map argument_of l.arguments)
