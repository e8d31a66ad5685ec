use Rattle.std.proofs.Common.{refl, ap}
use Rattle.p8_grammar.specs.Lexemes.{mark, right_parenthesis, comma}
use Rattle.p8_grammar.specs.Views.{setting_of, mark_of}
use Rattle.p8_expr.proofs.FormRows.{grown_as}
use Rattle.p8_expr.proofs.form.Form.on_mark.Goals as goal

pub returns-in-RightParenthesis-clause-comes : goal.returns-in-RightParenthesis-clause-comes
returns-in-RightParenthesis-clause-comes c =
    let s = setting_of c.args.setting in
    grown_as c.on_close.result s c.args.self.now c.on_close.new.self c.args.place c.args.place (mark right_parenthesis) (mark (mark_of c.args.mark)) refl (ap (λ m. mark (mark_of m)) c.in-RightParenthesis.is) (c.on_close.ensures.comes s c.args.place)

pub returns-in-Comma-clause-comes : goal.returns-in-Comma-clause-comes
returns-in-Comma-clause-comes c =
    let s = setting_of c.args.setting in
    grown_as c.on_comma.result s c.args.self.now c.on_comma.new.self c.args.place c.args.place (mark comma) (mark (mark_of c.args.mark)) refl (ap (λ m. mark (mark_of m)) c.in-Comma.is) (c.on_comma.ensures.comes s c.args.place)
