-- The record of a turn in a history file (this project's format): which numbers stand for a turn, and which
-- turns have a record.
use Rattle.std.specs.Prelude.{ℕ, ◌+◌, ◌*◌, ◌^◌, ◌≡◌, ◌<◌, List, [], ◌∷◌, ◌++◌, Option, Some, None, true, false}
use Rattle.byteorder.specs.Endian.{little_bytes}
use Rattle.p8_access.specs.declared.kinds.Width.{Width}
use Rattle.p8_access.specs.declared.kinds.Width.TheVariants.{Byte, Word, Long}
use Rattle.p8_access.specs.declared.kinds.Origin.{Origin}
use Rattle.p8_access.specs.declared.kinds.Origin.TheVariants.{Pasm, Spin}
use Rattle.p8_access.specs.declared.kinds.Test.{Test}
use Rattle.p8_access.specs.declared.kinds.Test.TheVariants.{Count, PinsEqual, PinsDiffer}
use Rattle.p8_access.specs.declared.kinds.Reason.{Reason}
use Rattle.p8_access.specs.declared.kinds.Reason.TheVariants as Why
use Rattle.p8_access.specs.declared.kinds.Access.{Access}
use Rattle.p8_access.specs.declared.kinds.Access.TheVariants.{Begin, Load, Read, Write, CogId, CogInit, CogStop, LockNew, LockRet, LockSet, LockClr}
use Rattle.p8_access.specs.declared.kinds.Access.TheVariants.{ClkSet, PinsIn, OutSet, DirSet, Wait, Clock, Halt}
use Rattle.p8_access.specs.declared.kinds.Answer.{Answer}
use Rattle.p8_access.specs.declared.kinds.Answer.TheVariants.{Done, Value, Number, Was}
use Rattle.p8_access.specs.declared.order.Turn.{Turn}
use Rattle.p8_access.specs.Proper.{IsNumber}
use Rattle.p8_verify.specs.declared.table.AccessFields.{AccessFields}
use Rattle.p8_verify.specs.declared.table.AnswerFields.{AnswerFields}

abbrev pub fields : (kind extra a b c : ℕ) → AccessFields
fields kind extra a b c = record { kind = kind; extra = extra; a = a; b = b; c = c }

abbrev pub width_number : Width → ℕ
width_number Byte = 0
width_number Word = 1
width_number Long = 2

-- the cog that is to be started, or 255 for the lowest that is stopped
abbrev pub target_number : Option ℕ → ℕ
target_number None = 255
target_number (Some cog) = cog

-- two numbers below 65,536 in a long
abbrev pub pair : ℕ → ℕ → ℕ
pair low high = low + 65536 * high

-- the start of a cog: c tells Spin from PASM
abbrev pub start_fields : (extra : ℕ) → Origin → AccessFields
start_fields extra (Pasm code par) = fields 5 extra (pair code par) 0 0
start_fields extra (Spin entry pbase vbase frame size) = fields 5 extra (pair entry pbase) (pair vbase frame) (pair size 1)

abbrev pub test_fields : Test → AccessFields
test_fields (Count target) = fields 15 0 target 0 0
test_fields (PinsEqual state mask) = fields 15 1 state mask 0
test_fields (PinsDiffer state mask) = fields 15 2 state mask 0

abbrev pub reason_fields : Reason → AccessFields
reason_fields (Why.Opcode long) = fields 17 0 long 0 0
reason_fields (Why.Register register) = fields 17 1 register 0 0
reason_fields (Why.Rom address) = fields 17 2 address 0 0
reason_fields (Why.Byte address) = fields 17 3 address 0 0
reason_fields Why.Deep = fields 17 4 0 0 0
reason_fields Why.Stack = fields 17 5 0 0 0
reason_fields Why.Under = fields 17 6 0 0 0
reason_fields Why.Table = fields 17 7 0 0 0
reason_fields Why.Port = fields 17 8 0 0 0
reason_fields Why.Reset = fields 17 9 0 0 0

-- the numbers of an access: its kind, and what it names
abbrev pub access_fields : Access → AccessFields
access_fields Begin = fields 0 0 0 0 0
access_fields Load = fields 1 0 0 0 0
access_fields (Read width address) = fields 2 (width_number width) address 0 0
access_fields (Write width address value) = fields 3 (width_number width) address value 0
access_fields CogId = fields 4 0 0 0 0
access_fields (CogInit target origin) = start_fields (target_number target) origin
access_fields (CogStop cog) = fields 6 0 cog 0 0
access_fields LockNew = fields 7 0 0 0 0
access_fields (LockRet lock) = fields 8 0 lock 0 0
access_fields (LockSet lock) = fields 9 0 lock 0 0
access_fields (LockClr lock) = fields 10 0 lock 0 0
access_fields (ClkSet mode) = fields 11 0 mode 0 0
access_fields PinsIn = fields 12 0 0 0 0
access_fields (OutSet value) = fields 13 0 value 0 0
access_fields (DirSet value) = fields 14 0 value 0 0
access_fields (Wait test) = test_fields test
access_fields Clock = fields 16 0 0 0 0
access_fields (Halt reason) = reason_fields reason

-- the numbers of an answer: its kind, and its value or number
abbrev pub answer_fields : Answer → AnswerFields
answer_fields Done = record { kind = 0; value = 0 }
answer_fields (Value value) = record { kind = 1; value = value }
answer_fields (Number (Some number)) = record { kind = 2; value = number }
answer_fields (Number None) = record { kind = 3; value = 0 }
answer_fields (Was false) = record { kind = 4; value = 0 }
answer_fields (Was true) = record { kind = 5; value = 0 }

-- the 24 bytes of a record
abbrev pub record_of : (clock cog : ℕ) → AccessFields → AnswerFields → List ℕ
record_of clock cog access answer =
    little_bytes 4 clock ++ (cog ∷ access.kind ∷ answer.kind ∷ access.extra ∷ [])
    ++ little_bytes 4 access.a ++ little_bytes 4 access.b ++ little_bytes 4 access.c ++ little_bytes 4 answer.value

-- the record of a turn
abbrev pub turn_bytes : Turn → List ℕ
turn_bytes turn = record_of turn.key.clock turn.key.cog (access_fields turn.access) (answer_fields turn.answer)

-- Which turns have a record: each number fits the place that the table gives it.

abbrev pub IsOriginWithin : Origin → Type 0
IsOriginWithin (Pasm code par) = (code < 65536) × (par < 65536)
IsOriginWithin (Spin entry pbase vbase frame size) =
    (entry < 65536) × (pbase < 65536) × (vbase < 65536) × (frame < 65536) × (size < 65536)

abbrev pub IsTestWithin : Test → Type 0
IsTestWithin (Count target) = target < 2 ^ 32
IsTestWithin (PinsEqual state mask) = (state < 2 ^ 32) × (mask < 2 ^ 32)
IsTestWithin (PinsDiffer state mask) = (state < 2 ^ 32) × (mask < 2 ^ 32)

abbrev pub IsReasonWithin : Reason → Type 0
IsReasonWithin (Why.Opcode long) = long < 2 ^ 32
IsReasonWithin (Why.Register register) = register < 512
IsReasonWithin (Why.Rom address) = address < 65536
IsReasonWithin (Why.Byte address) = address < 65536
IsReasonWithin Why.Deep = Unit {0}
IsReasonWithin Why.Stack = Unit {0}
IsReasonWithin Why.Under = Unit {0}
IsReasonWithin Why.Table = Unit {0}
IsReasonWithin Why.Port = Unit {0}
IsReasonWithin Why.Reset = Unit {0}

abbrev pub IsAccessWithin : Access → Type 0
IsAccessWithin Begin = Unit {0}
IsAccessWithin Load = Unit {0}
IsAccessWithin (Read width address) = address < 65536
IsAccessWithin (Write width address value) = (address < 65536) × (value < 2 ^ 32)
IsAccessWithin CogId = Unit {0}
IsAccessWithin (CogInit target origin) = IsNumber target × IsOriginWithin origin
IsAccessWithin (CogStop cog) = cog < 8
IsAccessWithin LockNew = Unit {0}
IsAccessWithin (LockRet lock) = lock < 8
IsAccessWithin (LockSet lock) = lock < 8
IsAccessWithin (LockClr lock) = lock < 8
IsAccessWithin (ClkSet mode) = mode < 256
IsAccessWithin PinsIn = Unit {0}
IsAccessWithin (OutSet value) = value < 2 ^ 32
IsAccessWithin (DirSet value) = value < 2 ^ 32
IsAccessWithin (Wait test) = IsTestWithin test
IsAccessWithin Clock = Unit {0}
IsAccessWithin (Halt reason) = IsReasonWithin reason

abbrev pub IsAnswerWithin : Answer → Type 0
IsAnswerWithin Done = Unit {0}
IsAnswerWithin (Value value) = value < 2 ^ 32
IsAnswerWithin (Number number) = IsNumber number
IsAnswerWithin (Was set) = Unit {0}

pub record IsWithin (turn : Turn) : Type 0 where
  pub clock : turn.key.clock < 2 ^ 32
  pub cog : turn.key.cog < 8
  pub access : IsAccessWithin turn.access
  pub answer : IsAnswerWithin turn.answer

-- these bytes begin with the record of a turn, and this comes after it
pub record IsRecord (bytes : List ℕ) (turn : Turn) (rest : List ℕ) : Type 0 where
  pub within : IsWithin turn
  pub bytes_are : bytes ≡ turn_bytes turn ++ rest

-- these bytes don't begin with a record
abbrev pub NoRecord : List ℕ → Type 0
NoRecord bytes = (turn : Turn) (rest : List ℕ) → IsRecord bytes turn rest → ⊥
