use Rattle.std.proofs.Common.{◌≡◌, drop}
use Rattle.p8_explain.specs.Slips.{is_one_of, words_of}
use Rattle.p8_explain.proofs.slips.is_one_of.Given as goal

abbrev pub invariant-loop-word : goal.invariant-loop-word
invariant-loop-word l = is_one_of (words_of (drop l.word-index l.words)) l.text ≡ is_one_of (words_of l.words) l.text
