use Rattle.std.proofs.Common.{[], suc}
use Rattle.p8_access.specs.Courses.{told}
use Rattle.p8_meaning.specs.Doing.{course_of}
use Rattle.p8_meaning.specs.Lives.{says, stops, cleared}
use Rattle.p8_meaning.proofs.Meanings.{meaning-same}
use Rattle.p8_meaning.proofs.folding_laws.folds_keep_meaning.Goals as goal

pub returns : goal.returns
unfolding says
returns c = λ program other are addresses target frame cog answers f i.
    told cog [] (course_of (meaning-same program other addresses frame are (suc f) target [] frame 1 (stops cog) (stops cog) i f cleared)) answers
