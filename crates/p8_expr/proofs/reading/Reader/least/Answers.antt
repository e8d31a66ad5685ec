use Rattle.std.proofs.Common.{true, false, sym, ap, ◌∙◌}
use Rattle.std.specs.Prelude.{min}
use Rattle.p8_grammar.specs.Machine.{state}
use Rattle.p8_grammar.specs.Least.{shape_least, least}
use Rattle.p8_grammar.specs.Views.{setting_of}
use Rattle.p8_grammar.proofs.Stuck.{denied}
use Rattle.p8_expr.specs.Views.{shape_of, frames_in}
use Rattle.p8_expr.proofs.Stepping.{least_shape}
use Rattle.p8_expr.proofs.reading.Reader.least.Goals as goal

pub returns-then-is_fresh : goal.returns-then-is_fresh
returns-then-is_fresh c =
    let r = c.args.self.now in
    c.operand_least.ensures ∙ ap (λ sh. min 65 (least (state (setting_of r.ahead.setting) sh (frames_in r.stack)))) (sym (c.is_fresh.ensures.0 c.if-is_fresh.true))

pub returns-else-is_fresh : goal.returns-else-is_fresh
returns-else-is_fresh c =
    let r = c.args.self.now in
    let sh = shape_of r.form in
    c.least-else-is_fresh.ensures (shape_least sh) (c.least.ensures c.requires)
    ∙ ap (min 65) (sym (least_shape (setting_of r.ahead.setting) sh (frames_in r.stack) (denied c.is_fresh.result c.if-is_fresh.false c.is_fresh.ensures.1)))
