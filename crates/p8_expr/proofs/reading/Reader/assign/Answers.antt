use Rattle.std.proofs.Common.{◌<◌, ◌≤◌, sym, ap, ◌∙◌, arith, subst}
use Rattle.std.specs.Prelude.{Some, ◌∷◌}
use Rattle.p8_tree.specs.Views.{variable_of}
use Rattle.p8_grammar.specs.Lexemes.{behind}
use Rattle.p8_grammar.specs.Machine.{assign_frame, fresh, state, level_bound_of}
use Rattle.p8_grammar.specs.Least.{least}
use Rattle.p8_grammar.specs.Views.{setting_of}
use Rattle.p8_expr.specs.Views.{frames_in, target_in, IsHigh}
use Rattle.p8_expr.specs.Lookaheads.{next_lexeme}
use Rattle.p8_expr.proofs.Operators.{ends_low, ends_tree, assign_here, assign_has_word, tree_target}
use Rattle.p8_expr.proofs.Stepping.{takes_turn, within_here}
use Rattle.p8_expr.proofs.reading.Reader.assign.Goals as goal

pub returns-then-level_bound-le21 : goal.returns-then-level_bound-le21
returns-then-level_bound-le21 c = λ st has next.
    let k = frames_in c.args.self.now.stack in
    let low : level_bound_of k ≤ 21 = omega (arith, c.level_bound.ensures) in
    c.end.ensures st has (ends_low c.args.self.now.ahead c.args.value k c.args.operator next low)

pub returns-in_ok-assign_to-in-Variable : goal.returns-in_ok-assign_to-in-Variable
returns-in_ok-assign_to-in-Variable c = λ st has next.
    let ahead = c.args.self.now.ahead in
    let k = frames_in c.args.self.now.stack in
    let low : 21 < level_bound_of k = omega (arith, c.level_bound.ensures) in
    let v = variable_of c.in-Variable.variable in
    takes_turn (least st) st ahead c.assign_to.new.self
    (c.in_ok-assign_to-in-Variable.ensures st (within_here ahead (assign_has_word (next_lexeme ahead) c.args.operator next))
    (assign_here ahead c.args.value k st c.args.operator v has next (ap target_in c.in-Variable.is) low ∙ ap (λ p. Some (state (behind (setting_of ahead.setting)) fresh (assign_frame c.args.operator p v ∷ k))) (sym c.place-place.ensures)))

pub returns-in_default : goal.returns-in_default
returns-in_default c = λ st has next.
    c.end-in_default.ensures st has (ends_tree c.args.self.now.ahead c.args.value (frames_in c.args.self.now.stack) c.args.operator next (tree_target c.args.value c.in_default.not-Variable))

pub assign_to-requires-clause-high : goal.assign_to-requires-clause-high
assign_to-requires-clause-high c = subst IsHigh c.in-Variable.is c.requires.high
