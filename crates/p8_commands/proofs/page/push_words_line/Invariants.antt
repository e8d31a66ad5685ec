use Rattle.std.proofs.Common.{◌≡◌, ◌++◌, ◌∷◌, [], drop}
use Rattle.std.specs.Prelude.{map}
use Rattle.std.specs.List.{flat_map}
use Rattle.p8_commands.specs.Pages.{spelled, words_line}
use Rattle.p8_commands.specs.Seen.{argument_of, entry_in}
use Rattle.p8_commands.proofs.page.push_words_line.Given as goal

abbrev pub invariant-loop-argument : goal.invariant-loop-argument
invariant-loop-argument l =
    l.out.items ++ (flat_map spelled (map argument_of (drop l.argument-index l.argument-items)) ++ 10 ∷ []) ≡ l.fn.out.items ++ words_line (entry_in l.row)
