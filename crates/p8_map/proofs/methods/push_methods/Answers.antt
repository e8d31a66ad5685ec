use Rattle.std.proofs.Common.{◌≡◌, ◌-◌, ◌+◌, ◌<◌, arith, drop, length, length-drop}
use Rattle.p8_map.proofs.Ending.{all-said, no-methods}
use Rattle.p8_map.proofs.methods.push_methods.Goals as goal

pub returns : goal.returns
returns c =
    let left : length (drop c.loop-index.index c.args.methods.now) ≡ length c.args.methods.now - c.loop-index.index = length-drop c.loop-index.index c.args.methods.now in
    let none : length (drop c.loop-index.index c.args.methods.now) < 1 = omega arith in
    all-said _ _ _ (no-methods c.loop-index.place (c.loop-index.index + 1) c.loop-index.rest.now (drop c.loop-index.index c.args.methods.now) none) c.loop-index.invariant
