use Rattle.std.proofs.Common.{[], suc}
use Rattle.p8_meaning.specs.Doing.{statement_after}
use Rattle.p8_meaning.specs.Lives.{says_for, stops, cleared}
use Rattle.p8_meaning.proofs.Meanings.{meaning-same}
use Rattle.p8_meaning.proofs.folding_laws.folds_keep_statements.Goals as goal

pub returns : goal.returns
unfolding says_for
returns c = λ program other are addresses target frame cog answers f i.
    statement_after (meaning-same program other addresses frame are (suc f) target [] frame 1 (stops cog) (stops cog) i f cleared) answers
