use Rattle.std.proofs.Common.{◌≡◌, ◌∙◌, ◌+◌, ◌-◌, ◌≤◌, ap, arith, length, length-drop}
use Rattle.p8_code.specs.Views.{scope_in}
use Rattle.p8_code.proofs.Stepping.{one-line}
use Rattle.p8_code.proofs.codes.push_op_lines.Goals as goal

pub loop-lines-preserved : goal.loop-lines-preserved
loop-lines-preserved c =
    let code = c.args.code.now in
    let rest = c.loop-lines.rest.now in
    let size = c.line_size-size.result in
    let some : 1 ≤ size = c.line_size-size.ensures.some in
    let fits : size ≤ length rest = c.line_size-size.ensures.within in
    let within : length rest ≤ length code = c.loop-lines.invariant.within in
    let left : length c.behind-rest.result.now ≡ length rest - size = ap length c.behind-rest.ensures ∙ length-drop size rest in
    record {
      within = omega (arith, within, left);
      text = one-line (scope_in c.args.scope) (length code - length rest) c.loop-lines.place c.loop-lines.previous c.loop-lines.lines.now rest size
          c.loop-lines.out.items c.push_heading.new.out.items c.push_op_line.new.out.items _ c.statement_line-line.result c.address_after-place.result
          (length code - length c.behind-rest.result.now) (length code + 1 - length rest) c.behind-lines.result.now c.behind-rest.result.now
          c.line_size-size.ensures.size (omega (arith, some, fits)) fits c.statement_line-line.ensures c.in_ok-push_heading.ensures (omega (arith, within)) c.in_ok-push_op_line.ensures
          c.address_after-place.ensures (omega (arith, left, within, fits)) c.behind-lines.ensures c.behind-rest.ensures c.loop-lines.invariant.text;
    }
