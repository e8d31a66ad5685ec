use Rattle.std.proofs.Common.{◌≡◌, ◌++◌, ◌+◌, ◌*◌, ◌≤◌, ℕ, drop, length}
use Rattle.p8_lexer.specs.Places.{start}
use Rattle.p8_explain.specs.Explaining.{line_from}
use Rattle.p8_hint.specs.Shown.{items_of, line_in}
use Rattle.p8_hint.proofs.lines.lines_of.Given as goal

abbrev pub invariant-loop-i : goal.invariant-loop-i
invariant-loop-i l = record {
  text : (n : ℕ) → line_in (items_of l.all.lines.items) l.all.last.items n ++ line_from (n + 1) l.before l.place (drop l.i l.text) ≡ line_from (n + 1) 0 start l.text;
  over : l.place.line ≡ length (items_of l.all.lines.items) + 1;
  line : l.place.line ≤ l.i + 1;
  counted : 1 ≤ l.place.column;
  column : l.place.column ≤ 8 * l.i + 1;
}
