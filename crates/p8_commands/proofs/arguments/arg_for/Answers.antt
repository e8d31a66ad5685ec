use Rattle.std.proofs.Common.{◌∙◌, ap, sym}
use Rattle.p8_commands.specs.declared.table.ArgumentKind.{ArgumentKind}
use Rattle.p8_commands.specs.Table.{rule_by}
use Rattle.p8_commands.proofs.arguments.arg_for.Goals as goal

pub returns-in-Operand-clause-rule : goal.returns-in-Operand-clause-rule
returns-in-Operand-clause-rule c = c.operand.ensures.rule ∙ ap (λ (kind : ArgumentKind). rule_by kind c.args.name.now) (sym c.in-Operand.is)

pub returns-in-OptionalOperand-clause-rule : goal.returns-in-OptionalOperand-clause-rule
returns-in-OptionalOperand-clause-rule c = c.optional_operand.ensures.rule ∙ ap (λ (kind : ArgumentKind). rule_by kind c.args.name.now) (sym c.in-OptionalOperand.is)

pub returns-in-Valued-clause-rule : goal.returns-in-Valued-clause-rule
returns-in-Valued-clause-rule c = c.valued.ensures.rule ∙ ap (λ (kind : ArgumentKind). rule_by kind c.args.name.now) (sym c.in-Valued.is)

pub returns-in-Flag-clause-rule : goal.returns-in-Flag-clause-rule
returns-in-Flag-clause-rule c = c.flag.ensures.rule ∙ ap (λ (kind : ArgumentKind). rule_by kind c.args.name.now) (sym c.in-Flag.is)
