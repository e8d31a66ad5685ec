use Rattle.std.proofs.Common.{length, ap, ◌∙◌, arith}
use Rattle.std.proofs.lemmas.Fmt.{length-decimal-le}
use Rattle.p8_report.proofs.clocks.Front.of.Goals as goal

pub padded-count-requires : goal.padded-count-requires
padded-count-requires c = omega (arith, ap length (c.as_bytes.ensures.value ∙ c.format.ensures.text), length-decimal-le 16 c.args.front (omega arith) (omega arith) (omega arith))
