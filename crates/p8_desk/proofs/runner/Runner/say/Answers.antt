use Rattle.std.proofs.Common.{refl}
use Rattle.p8_desk.proofs.Running.{rides-said}
use Rattle.p8_desk.proofs.runner.Runner.say.Goals as goal

pub returns-clause-rides : goal.returns-clause-rides
returns-clause-rides c = λ w n r rides. rides-said w n r c.args.self.now _ refl refl refl rides
