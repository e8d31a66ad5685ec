use Rattle.std.proofs.Common.{[], arith}
use Rattle.p8_meaning.specs.Lives.{says, life_of}
use Rattle.std.proofs.lemmas.List.Elements.{All-nil}
use Rattle.p8_meaning.specs.Halts.{IsSourceAccess}
use Rattle.p8_meaning.proofs.Growing.{own-accesses}
use Rattle.p8_meaning.proofs.GrowingForms.{life-goes}
use Rattle.p8_meaning.proofs.laws.source_halts_are_few.Goals as goal

pub returns : goal.returns
unfolding says
returns c = λ program addresses target frame cog answers f.
    own-accesses cog [] (life_of program addresses target frame cog f) (life_of program addresses target frame cog f) (life-goes program addresses target frame cog f f (omega arith)) answers (All-nil IsSourceAccess)
