use Rattle.std.proofs.Common.{◌≡◌, ◌∙◌, ◌+◌, ◌-◌, ◌≤◌, refl, ap, arith, length, length-drop, ℕ}
use Rattle.std.specs.Prelude.{max}
use Rattle.p8_image.specs.Listing.{pieces_of}
use Rattle.p8_code.specs.Images.{code_size}
use Rattle.p8_code.proofs.Counting.{code-goes-on}
use Rattle.p8_code.proofs.images.code_size.Goals as goal

pub loop-rest-preserved : goal.loop-rest-preserved
loop-rest-preserved c =
    let rest = c.loop-rest.rest.now in
    let before = c.loop-rest.before in
    let ahead = c.loop-rest.ahead in
    let size = c.line_size-size.result in
    let some : 1 ≤ size = c.line_size-size.ensures.some in
    let fits : size ≤ length rest = c.line_size-size.ensures.within in
    let parts : before + length rest ≡ length c.args.bytes.now = c.loop-rest.invariant.parts in
    let left : length c.behind-rest.result.now ≡ length rest - size = ap length c.behind-rest.ensures ∙ length-drop size rest in
    record {
      parts = omega (arith, parts, left, fits);
      is = code-goes-on before ahead rest size c.is_last.result (code_size 0 (pieces_of c.args.bytes.now)) (before + size) c.line_size-size.ensures.size some (omega (arith, some, fits)) fits
          c.is_last.ensures refl c.loop-rest.invariant.is c.if-is_last.false c.farther-ahead.result c.behind-rest.result.now
          (c.farther-ahead.ensures ∙ ap (λ (own : ℕ). max (ahead - size) own) c.reach.ensures) c.behind-rest.ensures;
    }
