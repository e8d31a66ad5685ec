use Rattle.p8_lines.proofs.Targets.{either_named, not_named}
use Rattle.p8_lines.proofs.reading.is_name.Goals as goal

pub returns-in-Name : goal.returns-in-Name
returns-in-Name c = λ t e. either_named t c.args.word e c.in-Name.is

pub returns-in_default : goal.returns-in_default
returns-in_default c = λ t e. not_named t c.args.word e c.in_default.not-Name c.in_default.not-Result
