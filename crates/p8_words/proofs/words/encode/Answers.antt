use Rattle.p8_words.proofs.Greatest.{IsPlace-leading}
use Rattle.p8_words.proofs.words.encode.Goals as goal

pub returns-clause-value : goal.returns-clause-value
returns-clause-value c = (IsPlace-leading c.args.a c.ranges.a.fits).value

pub returns-clause-none : goal.returns-clause-none
returns-clause-none c = (IsPlace-leading c.args.a c.ranges.a.fits).none

pub returns-clause-above : goal.returns-clause-above
returns-clause-above c = (IsPlace-leading c.args.a c.ranges.a.fits).above

pub returns-clause-below : goal.returns-clause-below
returns-clause-below c = (IsPlace-leading c.args.a c.ranges.a.fits).below
