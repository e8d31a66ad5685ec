use Rattle.std.proofs.Common.{◌≡◌, ◌∙◌, length, take, sym, ap, subst, arith}
use Rattle.std.proofs.Math.Seq.{take-length}
use Rattle.p8_lexer.proofs.CommentLemmas.{Open, open_first, open_more, open_plain, open_less, comment_ends, never_ends}
use Rattle.p8_lexer.proofs.comment.comment_end.Goals as goal
use Rattle.p8_lexer.proofs.comment.comment_end.Goals.{then-c-eq123, else-c-eq123+then-c-eq125+else-depth-eq1, else-c-eq123+else-c-eq125}

pub characters-init : goal.characters-init
characters-init c = record { within = omega arith; small = omega arith; opened = open_first c.args.text.now c.requires.within c.requires.brace }

pub returns-then-depth-eq1 : goal.returns-then-depth-eq1
returns-then-depth-eq1 c =
    let text = c.args.text.now in
    let i = c.characters.i in
    comment_ends text i (omega arith) c.requires.alone (subst (λ d. Open d (take i text)) c.if-depth-eq1.true c.characters.invariant.opened) (sym c.at-c.ensures ∙ c.if-c-eq125.true)

pub characters-preserved : goal.characters-preserved
characters-preserved c =
    let text = c.args.text.now in
    let i = c.characters.i in
    let at = c.at-c.ensures in
    elim c.if-c-eq123.branch [
      | then-c-eq123 w ↦ record { within = omega arith; small = omega (arith, w.depth-is); opened = open_more text i c.characters.depth _ (omega arith) c.characters.invariant.opened (sym at ∙ w.if-c-eq123.true) w.depth-is }
      | else-c-eq123+then-c-eq125+else-depth-eq1 w ↦ record { within = omega arith; small = omega (arith, w.depth-is); opened = open_less text i c.characters.depth _ (omega arith) c.characters.invariant.opened (sym at ∙ w.if-c-eq125.true) w.if-depth-eq1.false w.depth-is }
      | else-c-eq123+else-c-eq125 w ↦ record { within = omega arith; small = omega (arith, w.depth-is); opened = open_plain text i c.characters.depth _ (omega arith) c.characters.invariant.opened (λ e. w.if-c-eq123.false (at ∙ e)) (λ e. w.if-c-eq125.false (at ∙ e)) w.depth-is }
    ]

pub returns : goal.returns
returns c = λ n within. never_ends c.characters.depth c.args.text.now (subst (Open c.characters.depth) (let e : c.characters.i ≡ length c.args.text.now = omega arith in ap (λ i. take i c.args.text.now) e ∙ take-length c.args.text.now) c.characters.invariant.opened) n
