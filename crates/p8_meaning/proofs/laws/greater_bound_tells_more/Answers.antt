use Rattle.std.proofs.Common.{[]}
use Rattle.p8_meaning.specs.Lives.{says, life_of}
use Rattle.p8_meaning.proofs.Growing.{longer, settled}
use Rattle.p8_meaning.proofs.GrowingForms.{life-goes}
use Rattle.p8_meaning.proofs.laws.greater_bound_tells_more.Goals as goal

pub returns-clause-longer : goal.returns-clause-longer
unfolding says
returns-clause-longer c = λ program addresses target frame cog answers f g le.
    longer cog [] (life_of program addresses target frame cog f) (life_of program addresses target frame cog g) (life-goes program addresses target frame cog f g le) answers

pub returns-clause-settled : goal.returns-clause-settled
unfolding says
returns-clause-settled c = λ program addresses target frame cog answers f g le done.
    settled cog [] (life_of program addresses target frame cog f) (life_of program addresses target frame cog g) (life-goes program addresses target frame cog f g le) answers done
