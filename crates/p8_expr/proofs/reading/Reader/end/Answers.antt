use Rattle.std.proofs.Common.{sym, ap, ◌∙◌, refl}
use Rattle.std.specs.Prelude.{[], ◌∷◌}
use Rattle.p8_tree.specs.Views.{tree_of}
use Rattle.p8_grammar.specs.Machine.{tree_in}
use Rattle.p8_grammar.specs.Least.{least}
use Rattle.p8_grammar.proofs.Stuck.{denied}
use Rattle.p8_expr.specs.Views.{left_of, frame_of, frames_in}
use Rattle.p8_expr.proofs.Operators.{least_here, end_here, nothing_ends, whole_here, no_expression, more_begun}
use Rattle.p8_expr.proofs.Stepping.{breaks_turn}
use Rattle.p8_expr.proofs.reading.Reader.end.Goals as goal

pub returns-in-Some : goal.returns-in-Some
returns-in-Some c = λ st has ends.
    let ahead = c.args.self.now.ahead in
    let k = frames_in c.args.self.now.stack in
    let e = tree_in (left_of c.in_ok-value.value) in
    let red = c.in_ok-value.ensures.reduced ∙ ap (λ xs. (e, frames_in xs)) c.in-Some.ensures.0 in
    c.close.ensures st (more_begun ahead c.args.value k (frames_in c.pop.new.self) (frame_of c.in-Some.level.frame) st e has red)
    (least_here ahead c.args.value k st c.high.result c.least-least.result has (c.high.ensures c.requires.high) c.least-least.ensures)
    (end_here ahead c.args.value k (frame_of c.in-Some.level.frame ∷ frames_in c.pop.new.self) st e has ends red)

pub returns-in_ok-tree-in-None : goal.returns-in_ok-tree-in-None
returns-in_ok-tree-in-None c = λ st has ends.
    let ahead = c.args.self.now.ahead in
    let k = frames_in c.args.self.now.stack in
    let tree = c.in_ok-tree-in-None.tree in
    let told = c.in_ok-tree-in-None.ensures in
    whole_here ahead c.args.value k st c.into_inner.result (least st) c.at-at.result c.at-at.ensures has ends c.requires.fits (c.in_ok-value.ensures.reduced ∙ (λ i. ((sym told ∙ ap tree_of (sym c.into_inner.ensures)) i, frames_in (c.in-None.ensures.0 i)))) (c.is_whole-is_whole.ensures.0 c.if-is_whole.true) refl

pub returns-else-is_whole : goal.returns-else-is_whole
returns-else-is_whole c = λ st has ends.
    let ahead = c.args.self.now.ahead in
    let k = frames_in c.args.self.now.stack in
    let e = tree_in (left_of c.in_ok-value.value) in
    let red = c.in_ok-value.ensures.reduced ∙ ap (λ xs. (e, frames_in xs)) c.in-None.ensures.0 in
    breaks_turn (least st) st ahead c.args.self.now c.at-at.result c.least-least.result c.at-at.ensures c.requires.fits (end_here ahead c.args.value k [] st e has ends red ∙ nothing_ends _ e)
    (no_expression ahead c.args.value k st has (denied c.is_whole-is_whole.result c.if-is_whole.false c.is_whole-is_whole.ensures.1))
    (least_here ahead c.args.value k st c.high.result c.least-least.result has (c.high.ensures c.requires.high) c.least-least.ensures)
