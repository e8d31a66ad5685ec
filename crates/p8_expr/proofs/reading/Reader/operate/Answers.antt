use Rattle.std.proofs.Common.{◌≡◌, ℕ, List, suc, ◌+◌, ◌*◌, true, false, sym, ap, ◌∙◌, arith}
use Rattle.std.specs.Prelude.{Some, ◌∷◌, ◌&&◌, nat_lt}
use Rattle.p8_grammar.specs.Machine.{Frame, level_bound_of, reduce, tree_in, infix_frame, fresh, state}
use Rattle.p8_grammar.specs.Grammar.{is_boolean}
use Rattle.p8_grammar.specs.Least.{least}
use Rattle.p8_grammar.specs.Views.{setting_of}
use Rattle.p8_expr.specs.Views.{left_of, frames_in}
use Rattle.p8_expr.specs.Lookaheads.{next_place, next_lexeme}
use Rattle.p8_expr.proofs.Operators.{boolean_here, infix_here, infix_has_word}
use Rattle.p8_expr.proofs.Stepping.{takes_turn, within_here}
use Rattle.p8_expr.proofs.reading.Reader.operate.Goals as goal

-- the operator's rank
may_is : (lower : ℕ) (k : List Frame) → (is_boolean (lower + 1) && nat_lt 21 (level_bound_of k)) ≡ (is_boolean (suc lower) && nat_lt 21 (level_bound_of k))
may_is lower k =
    let up : lower + 1 ≡ suc lower = omega arith in
    ap (λ r. is_boolean r && nat_lt 21 (level_bound_of k)) up

pub returns-then-not-is_value : goal.returns-then-not-is_value
returns-then-not-is_value c = λ st has is. c.wait.ensures st c.args.lower has (sym c.is_value.ensures ∙ c.if-not-is_value.true) is (c.may_assign-may_assign.ensures ∙ may_is c.args.lower (frames_in c.args.self.now.stack))

pub returns-then-may_assign : goal.returns-then-may_assign
returns-then-may_assign c = λ st has is.
    let ahead = c.args.self.now.ahead in
    let k = frames_in c.args.self.now.stack in
    takes_turn (least st) st ahead c.infix.new.self
    (c.in_ok-infix.ensures st (within_here ahead (infix_has_word (next_lexeme ahead) _ is))
    (boolean_here ahead c.args.value k st c.args.lower c.args.code has is c.requires.rank (sym c.is_value.ensures ∙ c.if-not-is_value.false) (sym (c.may_assign-may_assign.ensures ∙ may_is c.args.lower (frames_in c.args.self.now.stack)) ∙ c.if-may_assign.true)))

pub returns : goal.returns
returns c = λ st has is.
    let ahead = c.args.self.now.ahead in
    let k = frames_in c.args.self.now.stack in
    let v = c.in_ok-left.left in
    let rank : 2 * (c.from.result + 1) ≡ 2 * suc c.args.lower = omega (arith, c.from.ensures) in
    let e = tree_in (left_of v) in
    takes_turn (least st) st ahead c.infix-2.new.self
    (c.in_ok-infix-2.ensures st (within_here ahead (infix_has_word (next_lexeme ahead) _ is))
    (infix_here ahead c.args.value k (frames_in c.reduce.new.self) st c.args.lower c.args.code e has is c.requires.rank (sym c.is_value.ensures ∙ c.if-not-is_value.false) (sym (c.may_assign-may_assign.ensures ∙ may_is c.args.lower (frames_in c.args.self.now.stack)) ∙ c.if-may_assign.false)
    (ap (λ m. reduce m (tree_in (left_of c.args.value)) k) (sym rank) ∙ c.in_ok-left.ensures.reduced)
    ∙ ap (λ l. Some (state (setting_of ahead.setting) fresh (infix_frame c.args.lower c.args.code (next_place ahead) l ∷ frames_in c.reduce.new.self))) (sym c.in_ok-left.ensures.tree)))
