use Rattle.std.proofs.Common.{arith}
use Rattle.p8_fold.specs.ConstantEntries.{setting_of}
use Rattle.p8_meaning.specs.Constants.{constants_in}
use Rattle.p8_meaning.proofs.Bodies.{no-test}
use Rattle.p8_meaning.proofs.chains.condition_of_arm.Goals as goal

pub returns-else-tests-eq1 : goal.returns-else-tests-eq1
returns-else-tests-eq1 c = no-test (constants_in (setting_of c.args.consts.now)) c.args.negated c.args.tests.now (λ one. omega arith)
