-- The code of numbers, and of what is done with a variable once it is named.
-- Sources: the public Spin bytecode listing of the Propeller P8X32A; the choice of forms is this project's profile.
use Rattle.std.specs.Prelude.{ℕ, ◌+◌, ◌-◌, ◌%◌, ◌^◌, ◌==◌, nat_lt, ◌&&◌, ◌||◌, Bool, false, if◌then◌else◌, List, Option, Some, None}
use Rattle.p8_bytecode.specs.declared.op.Op.{Op}
use Rattle.p8_bytecode.specs.Reading.{bare}
use Rattle.p8_kinds.specs.declared.name_kinds.NameKind.{NameKind}
use Rattle.p8_kinds.specs.declared.name_kinds.NameKind.TheVariants as kinds
use Rattle.p8_gen.specs.Names.{Names}
use Rattle.p8_gen.specs.Pieces.{Piece, byte, with_number, one}

-- a number, in the shortest form
abbrev pub number : ℕ → Piece
number n =
    if n == 0 then byte 0x35
    else if n == 1 then byte 0x36
    else if n == 2 ^ 32 - 1 then byte 0x34
    else if nat_lt n (2 ^ 8) then with_number 0x38 n
    else if nat_lt n (2 ^ 16) then with_number 0x39 n
    else if nat_lt n (2 ^ 24) then with_number 0x3A n
    else with_number 0x3B n

-- ---- where a variable stands

-- in memory from an address that was pushed, in the object, among its variables, in the frame
pub data Base : Type 0 where
  Pushed : Base
  OfObject : Base
  OfVariables : Base
  OfFrame : Base

-- a variable's base, its offset there, and its size in bytes
pub record Home : Type 0 where
  pub base : Base
  pub offset : ℕ
  pub size : ℕ

abbrev pub home_at : Base → ℕ → ℕ → Home
home_at base offset size = record { base = base; offset = offset; size = size }

-- of a name that is no variable nothing is asked
abbrev pub home_of_kind : Names → List ℕ → Option NameKind → Home
home_of_kind names name (Some (kinds.Global size offset)) = home_at OfVariables offset size
home_of_kind names name (Some (kinds.Local offset)) = home_at OfFrame offset 4
home_of_kind names name (Some (kinds.Label size)) = home_at OfObject (names.label name) size
home_of_kind names name _ = home_at OfFrame 0 4

abbrev pub home_of : Names → List ℕ → Home
home_of names name = home_of_kind names name (names.kind name)

-- ---- what is done with a variable

pub data Operation : Type 0 where
  -- its value is pushed
  Push : Operation
  -- a value is popped into it
  Pop : Operation
  -- it is changed by the effect of this byte
  Using : (effect : ℕ) → Operation
  -- its address is pushed
  Reference : Operation

abbrev pub action_of : Operation → ℕ
action_of Push = 0
action_of Pop = 1
action_of (Using effect) = 2
action_of Reference = 3

abbrev pub effect_of : Operation → ℕ
effect_of (Using effect) = effect
effect_of _ = 0

-- ---- memory

abbrev pub size_bits : ℕ → ℕ
size_bits size = if size == 1 then 0 else if size == 2 then 0x20 else 0x40

abbrev pub base_bits : Base → ℕ
base_bits Pushed = 0
base_bits OfObject = 4
base_bits OfVariables = 8
base_bits OfFrame = 12

-- the bytecode of memory says its size, whether an index was pushed, its base and what is done
abbrev pub memory_op : (indexed : Bool) → Home → Operation → Op
memory_op indexed home operation =
    record (bare (0x80 + size_bits home.size + (if indexed then 0x10 else 0) + base_bits home.base + action_of operation)) {
      first = home.offset % 2 ^ 15;
      effect = effect_of operation;
    }

-- a long that is among the first eight of VAR or of the frame has a bytecode of its own
abbrev pub short_bits : Base → Option ℕ
short_bits OfVariables = Some 0
short_bits OfFrame = Some 0x20
short_bits _ = None

abbrev pub is_short : Home → Bool
is_short home = home.size == 4 && nat_lt home.offset 32 && home.offset % 4 == 0

abbrev pub short_or_long : Option ℕ → Home → Operation → Op
short_or_long None home operation = memory_op false home operation
short_or_long (Some bits) home operation =
    if is_short home then record (bare (0x40 + bits + home.offset + action_of operation)) { effect = effect_of operation } else memory_op false home operation

abbrev pub plain_op : Home → Operation → Op
plain_op home operation = short_or_long (short_bits home.base) home operation

-- ---- registers

-- the byte of a register: its address less $1E0, and push, pop or change
abbrev pub operation_bits : Operation → ℕ
operation_bits (Using effect) = 0xC0
operation_bits Pop = 0xA0
operation_bits _ = 0x80

-- 3D, one pin; 3E, the pins from one to another; 3F, the whole register
abbrev pub register : (code address : ℕ) → Operation → Piece
register code address operation = one (record (bare code) { first = operation_bits operation + (address - 0x1E0); effect = effect_of operation })

-- ---- effects

-- `++` and `--` have an effect for each size
abbrev pub counts : ℕ → Bool
counts change = change == 0x20 || change == 0x28 || change == 0x30 || change == 0x38

-- a register's size is told as 0
abbrev pub by_size : ℕ → ℕ
by_size size = if size == 1 then 2 else if size == 2 then 4 else if size == 4 then 6 else 0

abbrev pub effect_for : (size change : ℕ) → ℕ
effect_for size change = if counts change then change + by_size size else change

-- an operator with which a variable is changed
abbrev pub effect_by : (operator : ℕ) → ℕ
effect_by operator = operator - 0xA0

-- bit 7 leaves a value
abbrev pub leaving : (used : Bool) → ℕ → ℕ
leaving used effect = if used then (effect + 0x80) % 2 ^ 8 else effect

-- what an assignment does with its variable, by its operator: where its value isn't used, a plain one pops it
abbrev pub assigned : (used : Bool) → Option ℕ → Operation
assigned used None = if used then Using 0x80 else Pop
assigned used (Some operator) = Using (leaving used (effect_by operator))
