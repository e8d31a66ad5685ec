use Rattle.p8_printed.proofs.SpelledLines.{read_back, read_only, never_refused}
use Rattle.p8_printed.proofs.reading.reads_back.Goals as goal

pub returns-clause-read : goal.returns-clause-read
returns-clause-read c = λ lines readable. read_back lines readable

pub returns-clause-only : goal.returns-clause-only
returns-clause-only c = λ lines tokens readable h. read_only lines readable tokens h

pub returns-clause-accepted : goal.returns-clause-accepted
returns-clause-accepted c = λ lines fault readable short. never_refused lines readable fault short
