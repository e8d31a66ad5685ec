use Rattle.std.proofs.Common.{◌≡◌, ◌+◌, ◌*◌, ◌≤◌, drop}
use Rattle.p8_lexer.specs.Places.{start}
use Rattle.p8_explain.specs.Standing.{character_from}
use Rattle.p8_explain.proofs.standing.character_at.Given as goal

abbrev pub invariant-loop-i : goal.invariant-loop-i
invariant-loop-i l = record {
  text : character_from l.sought l.before l.place (drop l.i l.text) ≡ character_from l.sought 0 start l.text;
  line : l.place.line ≤ l.i + 1;
  counted : 1 ≤ l.place.column;
  column : l.place.column ≤ 8 * l.i + 1;
}
