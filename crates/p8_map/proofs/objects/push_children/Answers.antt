use Rattle.std.proofs.Common.{◌≡◌, ◌-◌, ◌<◌, arith, drop, length, length-drop}
use Rattle.p8_map.proofs.Ending.{all-said, no-children}
use Rattle.p8_map.proofs.objects.push_children.Goals as goal

pub returns : goal.returns
returns c =
    let left : length (drop c.loop-file.file-index c.args.instances.now) ≡ length c.args.instances.now - c.loop-file.file-index = length-drop c.loop-file.file-index c.args.instances.now in
    let none : length (drop c.loop-file.file-index c.args.instances.now) < 1 = omega arith in
    all-said _ _ _ (no-children c.args.files.now c.loop-file.place c.loop-file.rest.now (drop c.loop-file.file-index c.args.instances.now) none) c.loop-file.invariant
