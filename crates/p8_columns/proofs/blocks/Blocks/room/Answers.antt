use Rattle.std.proofs.Common.{true, false}
use Rattle.p8_columns.specs.Lines.{is_case, is_other}
use Rattle.p8_columns.specs.Taken.{state_of}
use Rattle.p8_columns.proofs.Queries.{found_at, found_before, room_statement, room_nothing, room_item}
use Rattle.p8_columns.proofs.blocks.Blocks.room.Goals as goal

pub returns-then-is_other : goal.returns-then-is_other
returns-then-is_other c = λ lines h.
    let k = (state_of c.args.self.now).frames in
    room_nothing c.args.column lines c.args.self.now h (found_at is_case c.args.column c.from.result c.right_of-closed.result k c.is_case.result true c.from.ensures c.right_of-closed.ensures.exact c.is_case.ensures c.if-is_case.true) (found_before is_other c.args.column c.from.result c.right_of-closed.result k c.is_other.result true c.from.ensures c.right_of-closed.ensures.exact c.is_other.ensures c.if-is_other.true)

pub returns-else-is_other : goal.returns-else-is_other
returns-else-is_other c = λ lines h.
    let k = (state_of c.args.self.now).frames in
    room_item c.args.column lines c.args.self.now h (found_at is_case c.args.column c.from.result c.right_of-closed.result k c.is_case.result true c.from.ensures c.right_of-closed.ensures.exact c.is_case.ensures c.if-is_case.true) (found_before is_other c.args.column c.from.result c.right_of-closed.result k c.is_other.result false c.from.ensures c.right_of-closed.ensures.exact c.is_other.ensures c.if-is_other.false)

pub returns-else-is_case : goal.returns-else-is_case
returns-else-is_case c = λ lines h.
    let k = (state_of c.args.self.now).frames in
    room_statement c.args.column lines c.args.self.now h (found_at is_case c.args.column c.from.result c.right_of-closed.result k c.is_case.result false c.from.ensures c.right_of-closed.ensures.exact c.is_case.ensures c.if-is_case.false)
