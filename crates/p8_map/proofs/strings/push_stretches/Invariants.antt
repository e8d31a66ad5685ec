use Rattle.std.proofs.Common.{◌≡◌, ◌++◌, length, map}
use Rattle.p8_map.specs.Strings.{item_text, joined, stretches_of}
use Rattle.p8_map.proofs.strings.push_stretches.Given as goal

abbrev pub invariant-loop-text : goal.invariant-loop-text
invariant-loop-text l = l.out.items ++ joined (map item_text (stretches_of l.text)) ≡ l.initial.out.items ++ joined (map item_text (stretches_of l.initial.text))

abbrev pub decreases-loop-text : goal.decreases-loop-text
decreases-loop-text l = length l.text
