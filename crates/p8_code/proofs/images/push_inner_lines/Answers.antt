use Rattle.std.proofs.Common.{◌+◌, ◌-◌, arith}
use Rattle.p8_code.specs.Images.{inner_line, inner_lines}
use Rattle.p8_code.proofs.Counting.{inner-more, one-more}
use Rattle.p8_code.proofs.images.push_inner_lines.Goals as goal

pub loop-left-preserved : goal.loop-left-preserved
loop-left-preserved c =
    let base = c.args.base in
    let object = c.args.object.now in
    let number = c.loop-left.number in
    let left = c.loop-left.left in
    let few = c.loop-left.invariant.few in
    record {
      few = omega (arith, few);
      text = one-more c.loop-left.out.items c.push_inner_line.new.out.items _ (inner_line base object number) (inner_lines base object number left) (inner_lines base object (number + 1) (left - 1))
          c.in_ok-push_inner_line.ensures (inner-more base object number left (omega arith)) c.loop-left.invariant.text;
    }
