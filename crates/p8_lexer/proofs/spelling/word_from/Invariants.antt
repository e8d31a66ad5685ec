use Rattle.std.proofs.Common.{◌≡◌, ◌+◌, ◌*◌, ◌≤◌, drop}
use Rattle.p8_lexer.specs.Spelling.{word_at}
use Rattle.p8_lexer.proofs.spelling.word_from.Given as goal

abbrev pub invariant-loop-i : goal.invariant-loop-i
invariant-loop-i l = record {
  word : word_at l.fn.place l.before l.at (drop l.i l.text) ≡ word_at l.fn.place l.fn.mark.before l.fn.mark.place (drop l.fn.mark.at l.text);
  line : l.at.line ≤ l.i + 1;
  counted : 1 ≤ l.at.column;
  column : l.at.column ≤ 8 * l.i + 1;
}
