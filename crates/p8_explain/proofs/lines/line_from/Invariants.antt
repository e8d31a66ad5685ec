use Rattle.std.proofs.Common.{◌≡◌, ◌++◌, ◌+◌, ◌*◌, ◌≤◌, drop}
use Rattle.p8_lexer.specs.Places.{start}
use Rattle.p8_explain.specs.Explaining.{line_from}
use Rattle.p8_explain.proofs.lines.line_from.Given as goal

abbrev pub invariant-loop-i : goal.invariant-loop-i
invariant-loop-i l = record {
  text : l.out.items ++ line_from l.line l.before l.place (drop l.i l.text) ≡ line_from l.line 0 start l.text;
  line : l.place.line ≤ l.i + 1;
  counted : 1 ≤ l.place.column;
  column : l.place.column ≤ 8 * l.i + 1;
}
