use Rattle.std.proofs.Common.{◌∙◌, ap, sym, append_assoc, arith, ℕ, ◌≤◌, List, ◌++◌, drop, take, length}
use Rattle.p8_image.specs.Listing.{code_line, code_lines, address_after}
use Rattle.p8_image.proofs.Cutting.{lines-step}
use Rattle.p8_image.proofs.code.push_code_lines.Goals as goal

pub loop-rest-preserved : goal.loop-rest-preserved
loop-rest-preserved c =
    let out = c.loop-rest.out.items in
    let place = c.loop-rest.place in
    let rest = c.loop-rest.rest.now in
    let size = c.line_size-size.result in
    let some : 1 ≤ size = c.line_size-size.ensures.some in
    let within : size ≤ length rest = c.line_size-size.ensures.within in
    ap (λ (now : List ℕ). now ++ code_lines c.address_after-place.result c.behind-rest.result.now) c.in_ok-push_code_line.ensures
    ∙ ap (λ (next : ℕ). (out ++ code_line place (take size rest)) ++ code_lines next c.behind-rest.result.now) c.address_after-place.ensures
    ∙ ap (λ (left : List ℕ). (out ++ code_line place (take size rest)) ++ code_lines (address_after place size) left) c.behind-rest.ensures
    ∙ append_assoc out (code_line place (take size rest)) (code_lines (address_after place size) (drop size rest))
    ∙ ap (λ (lines : List ℕ). out ++ lines) (sym (lines-step place rest size c.line_size-size.ensures.size (omega arith) within))
    ∙ c.loop-rest.invariant
