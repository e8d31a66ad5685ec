use Rattle.std.proofs.Common.{◌≡◌}
use Rattle.p8_lexer.specs.Marks.{AreMarks, IsMark}
use Rattle.p8_lexer.proofs.spelling.marks_of.Given as goal

abbrev pub invariant-loop-at : goal.invariant-loop-at
invariant-loop-at l = record {
  at : l.mark.at ≡ l._at;
  mark : IsMark l.text l.mark;
  are : AreMarks l.text l.marks.items;
}
