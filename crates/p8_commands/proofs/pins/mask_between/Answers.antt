use Rattle.std.proofs.Common.{◌≤◌, ◌+◌, ◌^◌, arith}
use Rattle.std.proofs.Math.Pow.{pow_mono}
use Rattle.p8_commands.proofs.pins.mask_between.Goals as goal

pub overflow_sub-result : goal.overflow_sub-result
overflow_sub-result c =
    let rises : 2 ^ c.args.first ≤ 2 ^ (c.args.last + 1) = pow_mono (omega (arith, c.requires.first)) in
    rw (c.bit.ensures.value, c.bit-2.ensures.value) rises
