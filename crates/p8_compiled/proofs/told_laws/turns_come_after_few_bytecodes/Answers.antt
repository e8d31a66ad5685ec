use Rattle.p8_compiled.proofs.CodeTold.{code-told}
use Rattle.p8_compiled.proofs.FewBytecodes.{are-few}
use Rattle.p8_compiled.proofs.told_laws.turns_come_after_few_bytecodes.Goals as goal

pub returns : goal.returns
returns c = λ program addresses w world turn past legal origin running entered begins.
    are-few program addresses w world (λ cog lt. code-told program addresses w.memory cog (world.placed cog lt)) turn past legal origin running entered begins
