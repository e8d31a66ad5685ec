use Rattle.std.proofs.Common.{refl}
use Rattle.p8_desk.proofs.Running.{rides-new}
use Rattle.p8_desk.proofs.runner.Runner.new.Goals as goal

pub returns : goal.returns
returns c = λ w. rides-new w c.args.cog _ c.in_ok-new.ensures.cog refl refl
