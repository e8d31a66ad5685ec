use Rattle.std.proofs.Common.{refl, sym, ◌∙◌}
use Rattle.p8_build.specs.Measuring.{elsewhere, looked_for}
use Rattle.p8_build.proofs.sizes.code_size.Goals as goal

pub returns-then-fault-number : goal.returns-then-fault-number
returns-then-fault-number c = elsewhere (λ e. c.if-fault-number.true (e ∙ sym c.number.ensures)) refl

pub returns : goal.returns
returns c = looked_for c.in_ok-size.size (c.if-fault-number.false ∙ c.number.ensures) c.in_ok-size.ensures c.of_method_size.ensures
