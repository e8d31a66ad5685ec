use Rattle.std.proofs.Common.{◌∙◌, sym, ◌+◌, drop}
use Rattle.std.proofs.lemmas.List.{at_drop_more}
use Rattle.p8_commands.proofs.Digits.{value_on, too-great}
use Rattle.p8_commands.proofs.numbers.value_of.Goals as goal

pub returns-then-value-limit-clause-value : goal.returns-then-value-limit-clause-value
returns-then-value-limit-clause-value c =
    sym (c.loop-digit.invariant.value
    ∙ at_drop_more (value_on c.args.limit c.loop-digit.value) c.args.digits.now c.loop-digit.digit-index 0 c.loop-digit-test.true
    ∙ too-great c.args.limit c.loop-digit.value _ (drop (c.loop-digit.digit-index + 1) c.args.digits.now) c.if-value-limit.true)
