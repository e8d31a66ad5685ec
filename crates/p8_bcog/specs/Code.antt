-- The code and the tables of a program: they stand in the memory with which the machine began, whose bytes at
-- $8000 and above count as 0 (this project's profile).
use Rattle.std.specs.Prelude.{ℕ, ◌+◌, ◌*◌, ◌%◌, ◌^◌, min, Bool, ◌&&◌, nat_lt, nat_le, List, take, slice_index, if◌then◌else◌, Option, None}
use Rattle.p8_bytecode.specs.declared.op.Op.{Op}
use Rattle.p8_bytecode.specs.Reading.{op_at}
use Rattle.p8_bcog.specs.declared.step.Callee.{Callee}

abbrev pub byte_at : (memory : List ℕ) (address : ℕ) → ℕ
byte_at memory address = slice_index memory (address % 2 ^ 16)

abbrev pub word_at : (memory : List ℕ) (address : ℕ) → ℕ
word_at memory address = byte_at memory address + 256 * byte_at memory (address + 1)

-- ---- bytecodes

-- they stand from $0010 up to where the word at $0008 says, and below $8000
abbrev pub code_end : (memory : List ℕ) → ℕ
code_end memory = min (word_at memory 8) 32768

abbrev pub code_of : (memory : List ℕ) → List ℕ
code_of memory = take (code_end memory) memory

-- the bytecode at an address and the address after it, or nothing where none stands there whole
abbrev pub fetched_in : (code : List ℕ) (address : ℕ) → Option (Op × ℕ)
fetched_in code address = if nat_lt address 16 then None else op_at code address

abbrev pub fetched : (memory : List ℕ) (address : ℕ) → Option (Op × ℕ)
fetched memory address = fetched_in (code_of memory) address

-- ---- an object's table: at its base a word with its size, a byte with the number of its methods plus 1 and a
-- byte with the number of its objects, and then two words for each method from 1 on, and for each object

abbrev pub method_end : (memory : List ℕ) (pbase : ℕ) → ℕ
method_end memory pbase = byte_at memory (pbase + 2)

abbrev pub object_end : (memory : List ℕ) (pbase : ℕ) → ℕ
object_end memory pbase = method_end memory pbase + byte_at memory (pbase + 3)

-- a method's number and an object's place, each in its part of the table
abbrev pub is_method : (memory : List ℕ) (pbase m : ℕ) → Bool
is_method memory pbase m = nat_le 1 m && nat_lt m (method_end memory pbase)

abbrev pub is_object : (memory : List ℕ) (pbase o : ℕ) → Bool
is_object memory pbase o = nat_le (method_end memory pbase) o && nat_lt o (object_end memory pbase)

-- the words of an entry
abbrev pub first_word : (memory : List ℕ) (pbase entry : ℕ) → ℕ
first_word memory pbase entry = word_at memory (pbase + 4 * entry)

abbrev pub second_word : (memory : List ℕ) (pbase entry : ℕ) → ℕ
second_word memory pbase entry = word_at memory (pbase + 4 * entry + 2)

-- of an object these are the offsets of its base and of its variables from those at hand
abbrev pub object_base : (memory : List ℕ) (pbase o : ℕ) → ℕ
object_base memory pbase o = (pbase + first_word memory pbase o) % 2 ^ 16

abbrev pub object_variables : (memory : List ℕ) (pbase vbase o : ℕ) → ℕ
object_variables memory pbase vbase o = (vbase + second_word memory pbase o) % 2 ^ 16

-- of a method the offset of its code from the object's base, and the bytes of its locals without its parameters
abbrev pub method_at : (memory : List ℕ) (pbase vbase m : ℕ) → Callee
method_at memory pbase vbase m = record {
  entry = (pbase + first_word memory pbase m) % 2 ^ 16;
  pbase = pbase;
  vbase = vbase;
  locals = second_word memory pbase m;
}
