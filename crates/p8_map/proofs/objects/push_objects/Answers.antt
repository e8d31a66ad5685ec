use Rattle.std.proofs.Common.{◌≡◌, ◌-◌, ◌<◌, arith, drop, length, length-drop}
use Rattle.p8_map.proofs.Ending.{all-said, no-objects}
use Rattle.p8_map.proofs.objects.push_objects.Goals as goal

pub returns : goal.returns
returns c =
    let left : length (drop c.loop-object.object-index c.args.objects.now) ≡ length c.args.objects.now - c.loop-object.object-index = length-drop c.loop-object.object-index c.args.objects.now in
    let none : length (drop c.loop-object.object-index c.args.objects.now) < 1 = omega arith in
    all-said _ _ _ (no-objects c.args.files.now c.loop-object.base c.loop-object.rest.now (drop c.loop-object.object-index c.args.objects.now) none) c.loop-object.invariant
