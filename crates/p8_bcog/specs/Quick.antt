-- internal: the most frequent bytecodes, read from their first bytes. No public contract cites it.
use Rattle.std.specs.Prelude.{ℕ, ◌+◌, ◌*◌, ◌%◌, ◌≡◌, Bool, not, ◌&&◌, nat_le, nat_lt, if◌then◌else◌, List, Option, Result, Ok, Err, option_map}
use Rattle.p8_access.specs.declared.kinds.Reason.{Reason}
use Rattle.p8_access.specs.Courses.{Course, Finish, Stop}
use Rattle.p8_bytecode.specs.declared.op.Op.{Op}
use Rattle.p8_bytecode.specs.Reading.{op_in, sign_extended}
use Rattle.p8_bcog.specs.declared.state.SpinState.{SpinState}
use Rattle.p8_bcog.specs.Bytecodes.{does_found, clocks_of}

-- what comes of a bytecode that asks nothing: it is done, or an error halts the cog
abbrev pub finishes : {A : Type 0} → Result A Reason → SpinState → Course SpinState
finishes (Ok done) s = Finish s
finishes (Err reason) s = Stop reason

-- so many bytes further on
abbrev pub passed : (bytes : ℕ) → SpinState → SpinState
passed bytes s = record s { at = s.at + bytes }

-- the bytecode at the head of some bytes that begin at an address, and the address after it
abbrev pub found_at : (bytes : List ℕ) (at : ℕ) → Option (Op × ℕ)
found_at bytes at = option_map (λ read. (read.0, at + read.1)) (op_in bytes)

-- the bytecode at the head of these bytes takes 32 clocks, and comes to this whatever the memory and the cog
abbrev pub IsQuick : (bytes : List ℕ) → SpinState → Course SpinState → Type 0
IsQuick bytes s course =
    (memory : List ℕ) (cog : ℕ) → (does_found memory cog (found_at bytes s.at) s ≡ course) × (clocks_of (found_at bytes s.at) ≡ 32)

-- the offset of a jump by the two bytes after its own: where bit 7 of the first is 0 it has that byte alone
abbrev pub offset_of : (high low : ℕ) → ℕ
offset_of high low = if nat_lt high 128 then sign_extended 7 high else sign_extended 15 (high % 128 * 256 + low)

-- how many bytes a jump has, by the one after its own
abbrev pub jump_size : (high : ℕ) → ℕ
jump_size high = if nat_lt high 128 then 2 else 3

-- the operators that take 32 clocks
abbrev pub is_fast_operator : (code : ℕ) → Bool
is_fast_operator code = nat_le 0xE0 code && not (nat_le 0xF4 code && nat_le code 0xF8)

-- the bytecodes that name a long variable
abbrev pub names_long : (code : ℕ) → Bool
names_long code = nat_le 0x40 code && nat_lt code 0x80

-- the effects that add 1 or subtract 1
abbrev pub counts : (effect : ℕ) → Bool
counts effect = nat_le 0x20 (effect % 128) && nat_lt (effect % 128) 0x40
