use Rattle.std.proofs.Common.{◌≡◌, ◌-◌, ◌<◌, arith, drop, length, length-drop}
use Rattle.p8_map.proofs.Ending.{all-said, no-variables}
use Rattle.p8_map.proofs.variables.push_all_sized.Goals as goal

pub returns : goal.returns
returns c =
    let left : length (drop c.loop-variable.variable-index c.args.variables.now) ≡ length c.args.variables.now - c.loop-variable.variable-index = length-drop c.loop-variable.variable-index c.args.variables.now in
    let none : length (drop c.loop-variable.variable-index c.args.variables.now) < 1 = omega arith in
    all-said _ _ _ (no-variables c.args.size c.loop-variable.place c.args.prefix.now c.loop-variable.rest.now (drop c.loop-variable.variable-index c.args.variables.now) none) c.loop-variable.invariant
