use Rattle.p8_lines.proofs.Readings.{one_reading}
use Rattle.p8_lines.proofs.reading.one_reading.Goals as goal

pub returns : goal.returns
returns c = one_reading
