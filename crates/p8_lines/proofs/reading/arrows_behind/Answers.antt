use Rattle.std.proofs.Common.{◌∙◌, ◌-◌, ℕ, true, false, sym, ap, arith}
use Rattle.p8_lines.specs.Stopping.{next}
use Rattle.p8_lines.proofs.Targets.{word_here, behind_one, behind_several}
use Rattle.p8_lines.proofs.reading.arrows_behind.Goals as goal
use Rattle.p8_lines.proofs.reading.arrows_behind.Goals.{else-end-at-eq1-via-then-end-at-eq1+else-is_name, else-end-at-eq1-via-else-end-at-eq1}

pub returns-then-is_name : goal.returns-then-is_name
returns-then-is_name c =
    let begin = c.args.begin.now in
    let one = ap (λ (n : ℕ). c.args.end - n) (sym c.at.ensures) ∙ c.if-end-at-eq1.true in
    behind_one begin.bytes begin.tokens begin.at (c.args.end - begin.at) c.args.state c.behind_name.result.now true c.behind_name.ensures (omega (arith, c.requires.ordered, c.requires.within)) one
    (sym c.if-is_name.true ∙ c.is_name.ensures (next begin) (sym (c.word.ensures ∙ word_here begin)))

pub returns-else-end-at-eq1 : goal.returns-else-end-at-eq1
returns-else-end-at-eq1 c = elim c.else-end-at-eq1.branch [
  | else-end-at-eq1-via-then-end-at-eq1+else-is_name w ↦
      let begin = c.args.begin.now in
      let one = ap (λ (n : ℕ). c.args.end - n) (sym c.at.ensures) ∙ w.if-end-at-eq1.true in
      behind_one begin.bytes begin.tokens begin.at (c.args.end - begin.at) c.args.state c.behind.result.now false c.behind.ensures (omega (arith, c.requires.ordered, c.requires.within)) one
      (sym w.if-is_name.false ∙ w.is_name.ensures (next begin) (sym (w.word.ensures ∙ word_here begin)))
  | else-end-at-eq1-via-else-end-at-eq1 w ↦
      let begin = c.args.begin.now in
      behind_several begin.bytes begin.tokens begin.at (c.args.end - begin.at) c.args.state c.behind.result.now c.behind.ensures (omega (arith, c.requires.ordered, c.requires.within))
      (λ e. w.if-end-at-eq1.false (ap (λ (n : ℕ). c.args.end - n) c.at.ensures ∙ e))
]
