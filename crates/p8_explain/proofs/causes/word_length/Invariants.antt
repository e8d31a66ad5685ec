use Rattle.std.proofs.Common.{◌≡◌, ◌+◌, drop}
use Rattle.p8_explain.specs.Causes.{word_length}
use Rattle.p8_explain.proofs.causes.word_length.Given as goal

abbrev pub invariant-loop-c : goal.invariant-loop-c
invariant-loop-c l = (l.count ≡ l.c-index) × (l.count + word_length (drop l.c-index l.text) ≡ word_length l.text)
