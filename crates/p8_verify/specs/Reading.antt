-- internal
-- The one turn that a record can be of. Whether it is that turn's record is asked afterwards.
use Rattle.std.specs.Prelude.{ℕ, ◌/◌, ◌%◌, ◌==◌, nat_lt, if◌then◌else◌, List, drop, slice_index, Option, Some, None, true, false}
use Rattle.byteorder.specs.Endian.{little_number}
use Rattle.p8_access.specs.declared.kinds.Width.{Width}
use Rattle.p8_access.specs.declared.kinds.Width.TheVariants.{Byte, Word, Long}
use Rattle.p8_access.specs.declared.kinds.Origin.{Origin}
use Rattle.p8_access.specs.declared.kinds.Origin.TheVariants.{Pasm, Spin}
use Rattle.p8_access.specs.declared.kinds.Test.{Test}
use Rattle.p8_access.specs.declared.kinds.Test.TheVariants.{Count, PinsEqual, PinsDiffer}
use Rattle.p8_access.specs.declared.kinds.Reason.{Reason}
use Rattle.p8_access.specs.declared.kinds.Reason.TheVariants as Why
use Rattle.p8_access.specs.declared.kinds.Access.{Access}
use Rattle.p8_access.specs.declared.kinds.Access.TheVariants.{Begin, Load, Read, Write, CogId, CogInit, CogStop, LockNew, LockRet, LockSet, LockClr}
use Rattle.p8_access.specs.declared.kinds.Access.TheVariants.{ClkSet, PinsIn, OutSet, DirSet, Wait, Clock, Halt}
use Rattle.p8_access.specs.declared.kinds.Answer.{Answer}
use Rattle.p8_access.specs.declared.kinds.Answer.TheVariants.{Done, Value, Number, Was}
use Rattle.p8_access.specs.declared.order.Turn.{Turn}
use Rattle.p8_verify.specs.declared.table.AccessFields.{AccessFields}
use Rattle.p8_verify.specs.declared.table.AnswerFields.{AnswerFields}
use Rattle.p8_verify.specs.Table.{fields}

abbrev pub width_by : ℕ → Width
width_by extra =
    if extra == 0 then Byte
    else if extra == 1 then Word
    else Long

abbrev pub target_by : ℕ → Option ℕ
target_by extra = if extra == 255 then None else Some extra

abbrev pub origin_by : AccessFields → Origin
origin_by f =
    if nat_lt f.c 65536 then Pasm (f.a % 65536) (f.a / 65536)
    else Spin (f.a % 65536) (f.a / 65536) (f.b % 65536) (f.b / 65536) (f.c % 65536)

abbrev pub test_by : AccessFields → Test
test_by f =
    if f.extra == 0 then Count f.a
    else if f.extra == 1 then PinsEqual f.a f.b
    else PinsDiffer f.a f.b

abbrev pub reason_by : AccessFields → Reason
reason_by f =
    if f.extra == 0 then Why.Opcode f.a
    else if f.extra == 1 then Why.Register (f.a % 65536)
    else if f.extra == 2 then Why.Rom (f.a % 65536)
    else if f.extra == 3 then Why.Byte (f.a % 65536)
    else if f.extra == 4 then Why.Deep
    else if f.extra == 5 then Why.Stack
    else if f.extra == 6 then Why.Under
    else if f.extra == 7 then Why.Table
    else if f.extra == 8 then Why.Port
    else Why.Reset

abbrev pub access_by : AccessFields → Access
access_by f =
    if f.kind == 0 then Begin
    else if f.kind == 1 then Load
    else if f.kind == 2 then Read (width_by f.extra) (f.a % 65536)
    else if f.kind == 3 then Write (width_by f.extra) (f.a % 65536) f.b
    else if f.kind == 4 then CogId
    else if f.kind == 5 then CogInit (target_by f.extra) (origin_by f)
    else if f.kind == 6 then CogStop (f.a % 256)
    else if f.kind == 7 then LockNew
    else if f.kind == 8 then LockRet (f.a % 256)
    else if f.kind == 9 then LockSet (f.a % 256)
    else if f.kind == 10 then LockClr (f.a % 256)
    else if f.kind == 11 then ClkSet (f.a % 256)
    else if f.kind == 12 then PinsIn
    else if f.kind == 13 then OutSet f.a
    else if f.kind == 14 then DirSet f.a
    else if f.kind == 15 then Wait (test_by f)
    else if f.kind == 16 then Clock
    else Halt (reason_by f)

abbrev pub answer_by : AnswerFields → Answer
answer_by f =
    if f.kind == 0 then Done
    else if f.kind == 1 then Value f.value
    else if f.kind == 2 then Number (Some (f.value % 256))
    else if f.kind == 3 then Number None
    else if f.kind == 4 then Was false
    else Was true

-- the turn of the record with which these bytes begin
abbrev pub turn_by : List ℕ → Turn
turn_by bytes = record {
  key = record { clock = little_number 4 bytes; cog = slice_index bytes 4 };
  access = access_by (fields (slice_index bytes 5) (slice_index bytes 7) (little_number 4 (drop 8 bytes)) (little_number 4 (drop 12 bytes))
      (little_number 4 (drop 16 bytes)));
  answer = answer_by (record { kind = slice_index bytes 6; value = little_number 4 (drop 20 bytes) });
}
