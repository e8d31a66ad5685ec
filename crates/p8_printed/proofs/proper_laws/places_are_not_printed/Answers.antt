use Rattle.p8_printed.proofs.PlacelessLines.{same_lines}
use Rattle.p8_printed.proofs.proper_laws.places_are_not_printed.Goals as goal

pub returns : goal.returns
returns c = same_lines
