use Rattle.std.proofs.Common.{◌∙◌, ◌-◌, ap₂}
use Rattle.p8_hint.specs.Shown.{items_of, line_in}
use Rattle.p8_hint.proofs.Lined.{not_zero, shown_is}
use Rattle.p8_hint.proofs.lines.Lines.line.Goals as goal

pub returns : goal.returns
returns c =
    c.line_in.ensures
    ∙ ap₂ (λ ls last. line_in (items_of ls) last (c.args.line - 1)) c.deref.ensures.value c.deref-2.ensures.value
    ∙ shown_is c.args.self.now c.args.line (not_zero c.args.line c.if-line-eq0.false)
