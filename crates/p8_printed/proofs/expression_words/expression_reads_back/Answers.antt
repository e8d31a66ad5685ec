use Rattle.p8_printed.proofs.Printed.{wrapped_printed, wrapped_back, bare_back}
use Rattle.p8_printed.proofs.expression_words.expression_reads_back.Goals as goal

pub returns-clause-readable : goal.returns-clause-readable
returns-clause-readable c = λ s e ts r h k d lt. (wrapped_printed r h k d lt).0

pub returns-clause-capitals : goal.returns-clause-capitals
returns-clause-capitals c = λ s e ts r h k d lt. (wrapped_printed r h k d lt).1

pub returns-clause-same : goal.returns-clause-same
returns-clause-same c = λ s e ts us v r h is. wrapped_back v r h is

pub returns-clause-bare : goal.returns-clause-bare
returns-clause-bare c = λ s e ts us i r h is. bare_back i r h is
