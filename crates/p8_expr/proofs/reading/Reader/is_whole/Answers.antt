use Rattle.std.proofs.Common.{inl, inr, refl, sym, ◌∙◌}
use Rattle.p8_grammar.specs.Lexemes.{is_value}
use Rattle.p8_grammar.specs.Views.{setting_of}
use Rattle.p8_expr.proofs.Operators.{no_value}
use Rattle.p8_expr.proofs.reading.Reader.is_whole.Goals as goal

pub returns-then-is_value : goal.returns-then-is_value
returns-then-is_value c = (λ t. inl (sym c.is_value.ensures ∙ c.if-is_value.true), λ x. refl)

pub returns-else-is_value : goal.returns-else-is_value
returns-else-is_value c = (λ t. inr (c.is_action.ensures.0 t), no_value (is_value (setting_of c.args.self.now.ahead.setting)) c.is_action.result (sym c.is_value.ensures ∙ c.if-is_value.false) c.is_action.ensures.1)
