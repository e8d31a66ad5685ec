use Rattle.p8_verify.proofs.OneVerdict.{one-verdict}
use Rattle.p8_verify.proofs.laws.one_verdict.Goals as goal

pub returns : goal.returns
returns c = λ boot script bytes v u p q. one-verdict boot script bytes v u p q
