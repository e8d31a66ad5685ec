use Rattle.p8_verify.proofs.OneVerdict.{good-file, file-good}
use Rattle.p8_verify.proofs.laws.good_files.Goals as goal

pub returns : goal.returns
returns c = λ boot script bytes count. (good-file boot script bytes count, file-good boot script bytes count)
