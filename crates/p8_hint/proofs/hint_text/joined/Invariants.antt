use Rattle.std.proofs.Common.{◌≡◌, ◌++◌, drop}
use Rattle.p8_hint.specs.Hints.{joined}
use Rattle.p8_hint.proofs.hint_text.joined.Given as goal

abbrev pub invariant-loop-text : goal.invariant-loop-text
invariant-loop-text l = l.out.items ++ joined (drop l.text-index l.texts) ≡ joined l.texts
