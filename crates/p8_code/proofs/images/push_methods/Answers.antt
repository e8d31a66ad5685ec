use Rattle.std.proofs.Common.{◌+◌, ◌-◌, arith}
use Rattle.p8_code.specs.Images.{image_method, image_methods}
use Rattle.p8_code.proofs.Counting.{methods-more, one-more}
use Rattle.p8_code.proofs.images.push_methods.Goals as goal

pub loop-left-preserved : goal.loop-left-preserved
loop-left-preserved c =
    let base = c.args.base in
    let object = c.args.object.now in
    let number = c.loop-left.number in
    let left = c.loop-left.left in
    let few = c.loop-left.invariant.few in
    record {
      few = omega (arith, few);
      text = one-more c.loop-left.out.items c.push_method.new.out.items _ (image_method base object number) (image_methods base object number left) (image_methods base object (number + 1) (left - 1))
          c.in_ok-push_method.ensures (methods-more base object number left (omega arith)) c.loop-left.invariant.text;
    }
