use Rattle.std.proofs.Common.{ap, take, arith}
use Rattle.p8_verify.proofs.Back.{split-record}
use Rattle.p8_verify.proofs.records.begins_with.Goals as goal

pub returns-clause-record : goal.returns-clause-record
returns-clause-record c = λ yes.
    let is = c.is_record_of.ensures.0 yes in
    (split-record c.args.bytes.now c.args.turn is.0 is.1, omega arith)

pub returns-clause-other : goal.returns-clause-other
returns-clause-other c = λ rest is. c.is_record_of.ensures.1 (is.within, ap (take 24) is.bytes_are)
