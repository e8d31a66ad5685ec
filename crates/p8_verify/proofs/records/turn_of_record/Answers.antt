use Rattle.std.proofs.Common.{subst, sym, drop}
use Rattle.p8_access.specs.declared.order.Turn.{Turn}
use Rattle.p8_verify.specs.Table.{IsRecord}
use Rattle.p8_verify.proofs.Back.{long-enough, rest-is}
use Rattle.p8_verify.proofs.records.turn_of_record.Goals as goal

pub turn_by-requires : goal.turn_by-requires
turn_by-requires c = long-enough c.args.bytes.now c.requires.0 c.requires.1 c.requires.2

pub returns-clause-turn : goal.returns-clause-turn
returns-clause-turn c =
    subst (λ (turn : Turn). IsRecord c.args.bytes.now turn (drop 24 c.args.bytes.now)) (sym c.turn_by.ensures.turn) (rest-is c.args.bytes.now c.requires.0 c.requires.1 c.requires.2)
