use Rattle.p8_lines.specs.Tokens.{terms}
use Rattle.p8_printed.proofs.laws.printed_reads_back.Goals as goal

pub returns : goal.returns
returns c s is = c.proper_reads_back.ensures s (c.files_are_proper.ensures is.tokens s is.file (c.lexemes_are_proper.ensures (terms is.tokens) is.of_source))
