use Rattle.std.proofs.Common.{◌∙◌, ap}
use Rattle.p8_alu.specs.Effects.{signed_effect}
use Rattle.p8_alu.proofs.WholeSums.{signed_sum-exact}
use Rattle.p8_alu.proofs.sums.signed_sum_with.Goals as goal

pub returns : goal.returns
returns c =
    c.of_signed.ensures
    ∙ ap signed_effect (signed_sum-exact c.args.a c.args.b c.args.c c.signed.result c.signed-2.result c.ranges.a.fits c.ranges.b.fits c.signed.ensures c.signed-2.ensures)
