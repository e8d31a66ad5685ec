use Rattle.std.proofs.Common.{true, false, sym, ◌∙◌, subst}
use Rattle.p8_grammar.specs.Least.{least}
use Rattle.p8_grammar.specs.Views.{setting_of}
use Rattle.p8_expr.specs.Views.{shape_of, frames_in}
use Rattle.p8_expr.specs.Reading.{state_of, Takes}
use Rattle.p8_expr.proofs.Taking.{outer_tree, no_tree_accepts}
use Rattle.p8_expr.proofs.Stepping.{takes_turn, breaks_turn}
use Rattle.p8_expr.proofs.reading.Reader.turn.Goals as goal

pub returns-then-branch : goal.returns-then-branch
returns-then-branch c =
    let old = c.args.self.now in
    takes_turn (least (state_of old)) (state_of old) old.ahead c.take.new.self (subst (λ b. Takes (state_of old) old.ahead b c.take.new.self) c.if-branch.true c.in_ok-take.ensures)

pub returns : goal.returns
returns c =
    let old = c.args.self.now in
    breaks_turn (least (state_of old)) (state_of old) old.ahead old c.at-at.result c.least-least.result c.at-at.ensures c.requires.fits (subst (λ b. Takes (state_of old) old.ahead b c.take.new.self) c.if-branch.false c.in_ok-take.ensures)
    (no_tree_accepts (setting_of old.ahead.setting) (shape_of old.form) (frames_in old.stack) (outer_tree (shape_of old.form) (sym c.is_inner.ensures ∙ c.if-is_inner.false))) c.least-least.ensures
