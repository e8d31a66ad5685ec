use Rattle.std.proofs.Common.{◌≡◌, ◌++◌, drop}
use Rattle.std.specs.Prelude.{map}
use Rattle.std.specs.List.{flat_map}
use Rattle.p8_commands.specs.Pages.{example_line}
use Rattle.p8_commands.specs.Seen.{text_of}
use Rattle.p8_commands.proofs.page.push_example_lines.Given as goal

abbrev pub invariant-loop-example : goal.invariant-loop-example
invariant-loop-example l =
    l.out.items ++ flat_map example_line (map text_of (drop l.example-index l.examples)) ≡ l.fn.out.items ++ flat_map example_line (map text_of l.examples)
