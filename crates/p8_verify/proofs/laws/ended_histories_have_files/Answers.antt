use Rattle.p8_verify.proofs.Filed.{has-file}
use Rattle.p8_verify.proofs.laws.ended_histories_have_files.Goals as goal

pub returns : goal.returns
returns c = λ w of clocks turns past ended. has-file w of clocks turns past ended.legal
