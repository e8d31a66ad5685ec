use Rattle.std.proofs.Common.{rules, arith, IsTrue}
use Rattle.p8_verify.proofs.Back.{no-other, long-enough, split-record}
use Rattle.p8_verify.proofs.records.read_turn.Goals as goal

pub returns-then-is_record_of-clause-turn : goal.returns-then-is_record_of-clause-turn
returns-then-is_record_of-clause-turn c =
    let is = c.is_record_of.ensures.0 (search rules) in
    split-record c.args.bytes.now c.turn_by-turn.result is.0 is.1

pub returns-else-is_record_of-clause-turn : goal.returns-else-is_record_of-clause-turn
returns-else-is_record_of-clause-turn c =
    no-other c.args.bytes.now c.turn_by-turn.result c.turn_by-turn.ensures.turn (λ within bytes.
    let yes : IsTrue c.is_record_of.result = c.is_record_of.ensures.1 (within, bytes) in
    search rules)

pub returns-then-bytes-lt-RECORD-clause-turn : goal.returns-then-bytes-lt-RECORD-clause-turn
returns-then-bytes-lt-RECORD-clause-turn c = λ turn rest is. let enough = long-enough c.args.bytes.now turn rest is in omega arith
