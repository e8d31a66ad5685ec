-- A turn that has a record is the one that is made from the record's numbers.
use Rattle.std.proofs.Common.{◌≡◌, ◌∙◌, ap, sym, subst, refl, ℕ, ◌/◌, ◌%◌, ◌^◌, ◌<◌, ◌≤◌, nat_lt, List, [], ◌++◌, drop, take, length, Option, Some, None, true, false, arith}
use Rattle.std.proofs.Math.Nat.{mod-eq_of_lt}
use Rattle.std.proofs.lemmas.List.{take-append-drop}
use Rattle.std.proofs.lemmas.Bool.Decides.{nat_tests}
use Rattle.byteorder.specs.Endian.{little_bytes, little_number}
use Rattle.byteorder.specs.Numbers.{little_number-reads_back}
use Rattle.p8_access.specs.declared.kinds.Width.{Width}
use Rattle.p8_access.specs.declared.kinds.Width.TheVariants.{Byte, Word, Long}
use Rattle.p8_access.specs.declared.kinds.Origin.{Origin}
use Rattle.p8_access.specs.declared.kinds.Origin.TheVariants.{Pasm, Spin}
use Rattle.p8_access.specs.declared.kinds.Test.{Test}
use Rattle.p8_access.specs.declared.kinds.Test.TheVariants.{Count, PinsEqual, PinsDiffer}
use Rattle.p8_access.specs.declared.kinds.Reason.{Reason}
use Rattle.p8_access.specs.declared.kinds.Reason.TheVariants as Why
use Rattle.p8_access.specs.declared.kinds.Access.{Access}
use Rattle.p8_access.specs.declared.kinds.Access.TheVariants.{Begin, Load, Read, Write, CogId, CogInit, CogStop, LockNew, LockRet, LockSet, LockClr, ClkSet, PinsIn, OutSet, DirSet, Wait, Clock, Halt}
use Rattle.p8_access.specs.declared.kinds.Answer.{Answer}
use Rattle.p8_access.specs.declared.kinds.Answer.TheVariants.{Done, Value, Number, Was}
use Rattle.p8_access.specs.declared.order.Turn.{Turn}
use Rattle.p8_access.specs.Proper.{IsNumber}
use Rattle.p8_verify.specs.declared.table.AccessFields.{AccessFields}
use Rattle.p8_verify.specs.Table.{fields, pair, width_number, target_number, start_fields, test_fields, reason_fields, access_fields, answer_fields, turn_bytes, IsOriginWithin, IsTestWithin, IsReasonWithin, IsAccessWithin, IsAnswerWithin, IsWithin, IsRecord, NoRecord}
use Rattle.p8_verify.specs.Reading.{width_by, target_by, origin_by, access_by, answer_by, turn_by}

low : (a b : ℕ) → a < 65536 → pair a b % 65536 ≡ a
low a b h = omega arith

high : (a b : ℕ) → a < 65536 → pair a b / 65536 ≡ b
high a b h = omega arith

word : (a : ℕ) → a < 65536 → a % 65536 ≡ a
word a h = mod-eq_of_lt h

byte : (a : ℕ) → a < 256 → a % 256 ≡ a
byte a h = mod-eq_of_lt h

number : (a : ℕ) → a < 8 → a % 256 ≡ a
number a h = byte a (omega arith)

width-back : (width : Width) → width_by (width_number width) ≡ width
width-back Byte = refl
width-back Word = refl
width-back Long = refl

target-back : (target : Option ℕ) → IsNumber target → target_by (target_number target) ≡ target
target-back None h = refl
target-back (Some cog) h = grind (arith, nat_tests)

spin : (size : ℕ) → size < 65536 → nat_lt (pair size 1) 65536 ≡ false
spin size h = grind (arith, nat_tests)

origin-back : (extra : ℕ) (origin : Origin) → IsOriginWithin origin → origin_by (start_fields extra origin) ≡ origin
origin-back extra (Pasm code par) h = rw (low code par h.0, high code par h.0) refl
origin-back extra (Spin entry pbase vbase frame size) h =
    rw (spin size h.4, low entry pbase h.0, high entry pbase h.0, low vbase frame h.2, high vbase frame h.2, low size 1 h.4) refl

start-back : (extra : ℕ) (origin : Origin) → IsOriginWithin origin → access_by (start_fields extra origin) ≡ CogInit (target_by extra) origin
start-back extra (Pasm code par) h = ap (CogInit (target_by extra)) (origin-back extra (Pasm code par) h)
start-back extra (Spin entry pbase vbase frame size) h = ap (CogInit (target_by extra)) (origin-back extra (Spin entry pbase vbase frame size) h)

wait-back : (test : Test) → access_by (test_fields test) ≡ Wait test
wait-back (Count target) = refl
wait-back (PinsEqual state mask) = refl
wait-back (PinsDiffer state mask) = refl

halt-back : (reason : Reason) → IsReasonWithin reason → access_by (reason_fields reason) ≡ Halt reason
halt-back (Why.Opcode long) h = refl
halt-back (Why.Register register) h = ap (λ (n : ℕ). Halt (Why.Register n)) (word register (omega arith))
halt-back (Why.Rom address) h = ap (λ (n : ℕ). Halt (Why.Rom n)) (word address h)
halt-back (Why.Byte address) h = ap (λ (n : ℕ). Halt (Why.Byte n)) (word address h)
halt-back Why.Deep h = refl
halt-back Why.Stack h = refl
halt-back Why.Under h = refl
halt-back Why.Table h = refl
halt-back Why.Port h = refl
halt-back Why.Reset h = refl

-- an access is the one that is made from its numbers
access-back : (access : Access) → IsAccessWithin access → access_by (access_fields access) ≡ access
access-back Begin h = refl
access-back Load h = refl
access-back (Read width address) h = λ i. Read (width-back width i) (word address h i)
access-back (Write width address value) h = λ i. Write (width-back width i) (word address h.0 i) value
access-back CogId h = refl
access-back (CogInit target origin) h =
    start-back (target_number target) origin h.1 ∙ ap (λ (t : Option ℕ). CogInit t origin) (target-back target h.0)
access-back (CogStop cog) h = ap CogStop (number cog h)
access-back LockNew h = refl
access-back (LockRet lock) h = ap LockRet (number lock h)
access-back (LockSet lock) h = ap LockSet (number lock h)
access-back (LockClr lock) h = ap LockClr (number lock h)
access-back (ClkSet mode) h = ap ClkSet (byte mode h)
access-back PinsIn h = refl
access-back (OutSet value) h = refl
access-back (DirSet value) h = refl
access-back (Wait test) h = wait-back test
access-back Clock h = refl
access-back (Halt reason) h = halt-back reason h

answer-back : (answer : Answer) → IsAnswerWithin answer → answer_by (answer_fields answer) ≡ answer
answer-back Done h = refl
answer-back (Value value) h = refl
answer-back (Number (Some n)) h = ap (λ (m : ℕ). Number (Some m)) (number n h)
answer-back (Number None) h = refl
answer-back (Was false) h = refl
answer-back (Was true) h = refl

-- the numbers of an access are longs
record AreLongs (f : AccessFields) : Type 0 where
  a : f.a < 2 ^ 32
  b : f.b < 2 ^ 32
  c : f.c < 2 ^ 32

one-long : (kind extra a : ℕ) → a < 2 ^ 32 → AreLongs (fields kind extra a 0 0)
one-long kind extra a h = record { a = h; b = omega arith; c = omega arith }

origin-longs : (extra : ℕ) (origin : Origin) → IsOriginWithin origin → AreLongs (start_fields extra origin)
origin-longs extra (Pasm code par) h = one-long 5 extra (pair code par) (omega arith)
origin-longs extra (Spin entry pbase vbase frame size) h = record { a = omega arith; b = omega arith; c = omega arith }

test-longs : (test : Test) → IsTestWithin test → AreLongs (test_fields test)
test-longs (Count target) h = one-long 15 0 target h
test-longs (PinsEqual state mask) h = record { a = h.0; b = h.1; c = omega arith }
test-longs (PinsDiffer state mask) h = record { a = h.0; b = h.1; c = omega arith }

reason-longs : (reason : Reason) → IsReasonWithin reason → AreLongs (reason_fields reason)
reason-longs (Why.Opcode long) h = one-long 17 0 long h
reason-longs (Why.Register register) h = one-long 17 1 register (omega arith)
reason-longs (Why.Rom address) h = one-long 17 2 address (omega arith)
reason-longs (Why.Byte address) h = one-long 17 3 address (omega arith)
reason-longs Why.Deep h = one-long 17 4 0 (omega arith)
reason-longs Why.Stack h = one-long 17 5 0 (omega arith)
reason-longs Why.Under h = one-long 17 6 0 (omega arith)
reason-longs Why.Table h = one-long 17 7 0 (omega arith)
reason-longs Why.Port h = one-long 17 8 0 (omega arith)
reason-longs Why.Reset h = one-long 17 9 0 (omega arith)

access-longs : (access : Access) → IsAccessWithin access → AreLongs (access_fields access)
access-longs Begin h = one-long 0 0 0 (omega arith)
access-longs Load h = one-long 1 0 0 (omega arith)
access-longs (Read width address) h = one-long 2 (width_number width) address (omega arith)
access-longs (Write width address value) h = record { a = omega arith; b = h.1; c = omega arith }
access-longs CogId h = one-long 4 0 0 (omega arith)
access-longs (CogInit target origin) h = origin-longs (target_number target) origin h.1
access-longs (CogStop cog) h = one-long 6 0 cog (omega arith)
access-longs LockNew h = one-long 7 0 0 (omega arith)
access-longs (LockRet lock) h = one-long 8 0 lock (omega arith)
access-longs (LockSet lock) h = one-long 9 0 lock (omega arith)
access-longs (LockClr lock) h = one-long 10 0 lock (omega arith)
access-longs (ClkSet mode) h = one-long 11 0 mode (omega arith)
access-longs PinsIn h = one-long 12 0 0 (omega arith)
access-longs (OutSet value) h = one-long 13 0 value h
access-longs (DirSet value) h = one-long 14 0 value h
access-longs (Wait test) h = test-longs test h
access-longs Clock h = one-long 16 0 0 (omega arith)
access-longs (Halt reason) h = reason-longs reason h

answer-long : (answer : Answer) → IsAnswerWithin answer → (answer_fields answer).value < 2 ^ 32
answer-long Done h = omega arith
answer-long (Value value) h = h
answer-long (Number (Some n)) h = omega arith
answer-long (Number None) h = omega arith
answer-long (Was false) h = omega arith
answer-long (Was true) h = omega arith

long-back : (x : ℕ) → x < 2 ^ 32 → little_number 4 (little_bytes 4 x) ≡ x
long-back x h = little_number-reads_back 4 x [] h

-- a turn that has a record is the one that is made from it
pub turn-back : (turn : Turn) (rest : List ℕ) → IsWithin turn → turn_by (turn_bytes turn ++ rest) ≡ turn
turn-back turn rest w =
    let longs = access-longs turn.access w.access in
    let access : access_by (fields (access_fields turn.access).kind (access_fields turn.access).extra (little_number 4 (little_bytes 4 (access_fields turn.access).a)) (little_number 4 (little_bytes 4 (access_fields turn.access).b)) (little_number 4 (little_bytes 4 (access_fields turn.access).c))) ≡ turn.access =
    (λ i. access_by (fields (access_fields turn.access).kind (access_fields turn.access).extra (long-back (access_fields turn.access).a longs.a i) (long-back (access_fields turn.access).b longs.b i) (long-back (access_fields turn.access).c longs.c i)))
    ∙ access-back turn.access w.access in
    let answer : answer_by (record { kind = (answer_fields turn.answer).kind; value = little_number 4 (little_bytes 4 (answer_fields turn.answer).value) }) ≡ turn.answer =
    (λ i. answer_by (record { kind = (answer_fields turn.answer).kind; value = long-back (answer_fields turn.answer).value (answer-long turn.answer w.answer) i }))
    ∙ answer-back turn.answer w.answer in
    λ i. record { key = record { clock = long-back turn.key.clock w.clock i; cog = turn.key.cog }; access = access i; answer = answer i }

-- bytes that begin with a record: they are long enough, and it is the record of the turn that is made from it
pub long-enough : (bytes : List ℕ) (turn : Turn) (rest : List ℕ) → IsRecord bytes turn rest → 24 ≤ length bytes
long-enough bytes turn rest is = rw (ap length is.bytes_are) (omega arith)

pub made-again : (bytes : List ℕ) (turn : Turn) (rest : List ℕ) → IsRecord bytes turn rest → turn_by bytes ≡ turn
made-again bytes turn rest is = ap turn_by is.bytes_are ∙ turn-back turn rest is.within

pub no-other : (bytes : List ℕ) (made : Turn) → made ≡ turn_by bytes → (IsWithin made → take 24 bytes ≡ turn_bytes made → ⊥) → NoRecord bytes
no-other bytes made e none turn rest is =
    let same : turn ≡ made = sym (made-again bytes turn rest is) ∙ sym e in
    none (subst IsWithin same is.within) (ap (take 24) is.bytes_are ∙ ap turn_bytes same)

pub split-record : (bytes : List ℕ) (turn : Turn) → IsWithin turn → take 24 bytes ≡ turn_bytes turn → IsRecord bytes turn (drop 24 bytes)
split-record bytes turn within e = record {
  within = within;
  bytes_are = sym (take-append-drop 24 bytes) ∙ ap (λ (xs : List ℕ). xs ++ drop 24 bytes) e;
}

-- bytes begin with the record of one turn
pub one-record : (bytes : List ℕ) (t u : Turn) (x y : List ℕ) → IsRecord bytes t x → IsRecord bytes u y → (t ≡ u) × (x ≡ y)
one-record bytes t u x y p q =
    (sym (made-again bytes t x p) ∙ made-again bytes u y q, ap (drop 24) (sym p.bytes_are ∙ q.bytes_are))

-- what a record is followed by stands 24 bytes on
pub rest-is : (bytes : List ℕ) (turn : Turn) (rest : List ℕ) → IsRecord bytes turn rest → IsRecord bytes (turn_by bytes) (drop 24 bytes)
rest-is bytes turn rest is =
    let same : turn_by bytes ≡ turn = made-again bytes turn rest is in
    let behind : drop 24 bytes ≡ rest = ap (drop 24) is.bytes_are in
    subst (λ (t : Turn). IsRecord bytes t (drop 24 bytes)) (sym same) (subst (λ (xs : List ℕ). IsRecord bytes turn xs) (sym behind) is)
