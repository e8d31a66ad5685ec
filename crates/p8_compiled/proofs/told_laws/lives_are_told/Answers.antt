use Rattle.p8_compiled.proofs.CodeTold.{code-told}
use Rattle.p8_compiled.proofs.EachLife.{all-told}
use Rattle.p8_compiled.proofs.told_laws.lives_are_told.Goals as goal

pub returns-clause-legal : goal.returns-clause-legal
returns-clause-legal c = λ program addresses w world past legal.
    all-told program addresses w world (λ cog lt. code-told program addresses w.memory cog (world.placed cog lt)) past legal

pub returns-clause-ended : goal.returns-clause-ended
returns-clause-ended c = λ program addresses w world past ended.
    all-told program addresses w world (λ cog lt. code-told program addresses w.memory cog (world.placed cog lt)) past ended.legal
