use Rattle.std.proofs.Common.{◌∙◌, ap, sym, List, ℕ, Option}
use Rattle.std.specs.Borrow.{Bor}
use Rattle.p8_commands.specs.Pins.{mask_with, mask_of}
use Rattle.p8_commands.proofs.Parts.{parts_left, with-more, with-none}
use Rattle.p8_commands.proofs.pins.mask_in.Goals as goal

pub returns-in_err-mask : goal.returns-in_err-mask
returns-in_err-mask c =
    let goes_on = ap (λ (left : Option (Bor (List ℕ))). mask_with c.parts.mask (parts_left left)) (sym c.in-Some.is) ∙ c.parts.invariant in
    c.from_residual.ensures
    ∙ with-none c.in-Some.text.now c.parts.mask (mask_of c.args.text.now) c.cut.result.0.now c.cut.result.1 goes_on c.cut.ensures.before c.cut.ensures.after (sym c.mask_of_range.ensures ∙ c.in_err-mask.was)

pub parts-preserved : goal.parts-preserved
parts-preserved c =
    let goes_on = ap (λ (left : Option (Bor (List ℕ))). mask_with c.parts.mask (parts_left left)) (sym c.in-Some.is) ∙ c.parts.invariant in
    with-more c.in-Some.text.now c.parts.mask (mask_of c.args.text.now) c.cut.result.0.now c.cut.result.1 goes_on c.cut.ensures.before c.cut.ensures.after c.in_ok-mask.field-0 (sym c.mask_of_range.ensures ∙ c.in_ok-mask.was)
