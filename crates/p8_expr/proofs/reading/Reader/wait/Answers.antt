use Rattle.std.proofs.Common.{suc, true, false, sym, ap, ◌∙◌, subst}
use Rattle.std.specs.Prelude.{nat_lt, ◌&&◌}
use Rattle.p8_tree.specs.Views.{variable_of}
use Rattle.p8_grammar.specs.Grammar.{is_boolean}
use Rattle.p8_grammar.specs.Machine.{level_bound_of}
use Rattle.p8_grammar.specs.Least.{least}
use Rattle.p8_expr.specs.Views.{target_in, frames_in, IsHigh}
use Rattle.p8_expr.specs.Lookaheads.{next_lexeme}
use Rattle.p8_expr.proofs.Operators.{ends_action, no_variable, no_test, becomes_here, infix_has_word, tree_target}
use Rattle.p8_expr.proofs.Stepping.{within_here}
use Rattle.p8_expr.proofs.reading.Reader.wait.Goals as goal

pub returns-then-not-may_assign : goal.returns-then-not-may_assign
returns-then-not-may_assign c = λ st r has d is may.
    let k = frames_in c.args.self.now.stack in
    c.end.ensures st has (ends_action c.args.self.now.ahead c.args.value k r c.args.code d is (no_test (is_boolean (suc r) && nat_lt 21 (level_bound_of k)) c.args.value (sym may ∙ c.if-not-may_assign.true)))

pub returns-in-Variable : goal.returns-in-Variable
returns-in-Variable c = λ st r has d is may.
    let ahead = c.args.self.now.ahead in
    let k = frames_in c.args.self.now.stack in
    c.await_equal.ensures st (least st) (within_here ahead (infix_has_word (next_lexeme ahead) _ is))
    (becomes_here ahead c.args.value k st r c.args.code (variable_of c.in-Variable.variable) has is d (sym may ∙ c.if-not-may_assign.false) (ap target_in c.in-Variable.is))

pub returns-in_default : goal.returns-in_default
returns-in_default c = λ st r has d is may.
    let k = frames_in c.args.self.now.stack in
    c.end-in_default.ensures st has (ends_action c.args.self.now.ahead c.args.value k r c.args.code d is (no_variable (is_boolean (suc r) && nat_lt 21 (level_bound_of k)) c.args.value (tree_target c.args.value c.in_default.not-Variable)))

pub await_equal-requires-clause-high : goal.await_equal-requires-clause-high
await_equal-requires-clause-high c = subst IsHigh c.in-Variable.is c.requires.high
