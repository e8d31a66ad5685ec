use Rattle.p8_printed.proofs.Bytes.{bytes_are, clean}
use Rattle.p8_printed.proofs.long_laws.line_is_assembled.Goals as goal

pub returns-clause-bytes : goal.returns-clause-bytes
returns-clause-bytes c = λ base long line is small. bytes_are base long line is small

pub returns-clause-clean : goal.returns-clause-clean
returns-clause-clean c = λ base long line is small f. clean base long line is small f
