use Rattle.std.proofs.Common.{◌%◌, List, refl, sym, subst, arith}
use Rattle.std.specs.Prelude.{◌==◌}
use Rattle.p8_lexer.specs.declared.spelling.Checkpoint.{Checkpoint}
use Rattle.p8_lexer.specs.Marks.{AreMarks}
use Rattle.p8_lexer.proofs.Marking.{first-mark, one-more}
use Rattle.p8_lexer.proofs.spelling.marks_of.Goals as goal

pub loop-at-init : goal.loop-at-init
loop-at-init c = record {
  at = refl;
  mark = first-mark c.args.text.now;
  are = subst (λ (marks : List Checkpoint). AreMarks c.args.text.now marks) (sym c.new-marks.ensures.items) tt;
}

pub next_mark-mark-requires-clause-within : goal.next_mark-mark-requires-clause-within
next_mark-mark-requires-clause-within c = let at = c.loop-at.invariant.at in omega (arith, at)

pub next_mark-mark-requires-clause-mark : goal.next_mark-mark-requires-clause-mark
next_mark-mark-requires-clause-mark c = c.loop-at.invariant.mark

pub loop-at-preserved : goal.loop-at-preserved
loop-at-preserved c =
    let at = c.next_mark-mark.ensures.at in
    let before = c.loop-at.invariant.at in
    record {
      at = omega (arith, at, before);
      mark = c.next_mark-mark.ensures.mark;
      are = one-more c.args.text.now c.loop-at.marks.items c.put.new.marks.items c.loop-at.mark (c.loop-at.mark.at % 64 == 0) c.loop-at.invariant.are c.loop-at.invariant.mark c.in_ok-put.ensures;
    }

pub returns : goal.returns
returns c = c.loop-at.invariant.are
