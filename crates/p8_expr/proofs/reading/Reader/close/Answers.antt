use Rattle.std.proofs.Common.{◌≡◌, sym, ap, ◌∙◌, arith}
use Rattle.std.specs.Prelude.{min}
use Rattle.p8_tree.specs.Views.{tree_of}
use Rattle.p8_grammar.specs.Heights.{height}
use Rattle.p8_grammar.specs.Machine.{tree_in}
use Rattle.p8_grammar.specs.Views.{setting_of}
use Rattle.p8_grammar.specs.Least.{least, high_in_hole, high_in_frame}
use Rattle.p8_expr.specs.Views.{left_of, frame_of, frames_in, hole_at}
use Rattle.p8_expr.specs.Lookaheads.{next_lexeme}
use Rattle.p8_expr.proofs.Operators.{no_form, closed_step}
use Rattle.p8_expr.proofs.Stepping.{breaks_turn}
use Rattle.p8_expr.proofs.reading.Reader.close.Goals as goal

pub returns-in-Some : goal.returns-in-Some
returns-in-Some c = λ st none low steps.
    let k = frames_in c.args.self.now.stack in
    let x = c.in-Some.opened in
    c.fill.ensures st none low
    (closed_step c.args.self.now.ahead st (tree_in (left_of c.args.value)) (tree_of c.in_ok-tree.tree.value) (frame_of c.args.level.frame) (setting_of x.outer)
    (hole_at x.hole x.parts) k steps c.in-Some.ensures c.in_ok-tree.ensures)

pub returns-in-None : goal.returns-in-None
returns-in-None c = λ st none low steps.
    let ahead = c.args.self.now.ahead in
    breaks_turn (least st) st ahead c.args.self.now c.at.result c.args.low c.at.ensures c.requires.fits
    (steps ∙ no_form (next_lexeme ahead) (tree_in (left_of c.args.value)) (frame_of c.args.level.frame) (frames_in c.args.self.now.stack) c.in-None.ensures) none low

pub fill-requires-clause-filled : goal.fill-requires-clause-filled
fill-requires-clause-filled c =
    let h = hole_at c.in-Some.opened.hole c.in-Some.opened.parts in
    let e = tree_of c.in_ok-tree.tree.value in
    let low : c.args.level.high ≡ min 65 (high_in_hole h) = c.requires.level ∙ ap (λ f. min 65 (high_in_frame f)) c.in-Some.ensures in
    let tree : c.high.result ≡ min 65 (height e) = c.high.ensures c.requires.high ∙ ap (λ e. min 65 (height e)) (sym c.in_ok-tree.ensures) in
    omega (arith, low, tree, c.max-high.ensures)
