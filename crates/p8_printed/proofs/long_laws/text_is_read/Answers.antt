use Rattle.p8_printed.proofs.LongFiles.{text_read, text_short}
use Rattle.p8_printed.proofs.long_laws.text_is_read.Goals as goal

pub returns-clause-read : goal.returns-clause-read
returns-clause-read c = λ long small. text_read long small

pub returns-clause-short : goal.returns-clause-short
returns-clause-short c = λ long small. text_short long small
