use Rattle.std.proofs.Common.{◌≡◌, map, drop}
use Rattle.p8_explain.specs.Slips.{first_form, form_of}
use Rattle.p8_explain.proofs.slips.first_form.Given as goal

abbrev pub invariant-loop-words : goal.invariant-loop-words
invariant-loop-words l = first_form (map form_of (drop l.words-index l.rows)) l.word ≡ first_form (map form_of l.rows) l.word
