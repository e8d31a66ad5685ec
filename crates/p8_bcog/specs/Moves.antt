-- Fills, moves and texts: rows of elements by ascending address, an access or two for each.
use Rattle.std.specs.Prelude.{ℕ, zero, suc, ◌+◌, ◌-◌, ◌%◌, ◌^◌, ◌==◌, if◌then◌else◌}
use Rattle.p8_access.specs.declared.kinds.Width.{Width}
use Rattle.p8_access.specs.declared.kinds.Width.TheVariants.{Byte}
use Rattle.p8_access.specs.Courses.{Course, Finish, Ask}
use Rattle.p8_bcog.specs.declared.state.SpinState.{SpinState}
use Rattle.p8_bcog.specs.Operands.{operand, taken, pushed, tested}
use Rattle.p8_bcog.specs.Accesses.{word_in, read_of, is_readable, rom_halt, write_of, next_address}
pub use Rattle.p8_words.specs.Fields.{count_of}
pub use Rattle.p8_access.specs.Addresses.{room_from}

-- ---- 18, 19, 1A ( a v n -- ) fill bytes, words, longs

unfoldable pub fills : Width → (address value left : ℕ) → SpinState → Course SpinState
fills width address value zero s = Finish s
fills width address value (suc left) s =
    Ask (write_of width address value) (λ answer. fills width (next_address width address) value left s)

unfoldable pub fill : Width → SpinState → Course SpinState
fill width s =
    tested 3 0 s (fills width (operand s 2 % 2 ^ 16) (operand s 1) (count_of (operand s 0)) (taken 3 s))

-- ---- 1C, 1D, 1E ( to from n -- ) move: read, then write, each element

unfoldable pub moves : Width → (to from left : ℕ) → SpinState → Course SpinState
moves width to from zero s = Finish s
moves width to from (suc left) s =
    if is_readable width from
    then Ask (read_of width from)
    (λ element. Ask (write_of width to (word_in element))
    (λ answer. moves width (next_address width to) (next_address width from) left s))
    else rom_halt width from

unfoldable pub move_elements : Width → SpinState → Course SpinState
move_elements width s =
    tested 3 0 s (moves width (operand s 2 % 2 ^ 16) (operand s 1 % 2 ^ 16) (count_of (operand s 0)) (taken 3 s))

-- ---- texts: bytes up to a 0. From an address below $8000 so many bytes can be read.

-- 16 ( a -- n ) the number of bytes from a up to a 0, without it
unfoldable pub counts : (room address count : ℕ) → SpinState → Course SpinState
counts zero address count s = rom_halt Byte address
counts (suc room) address count s =
    Ask (read_of Byte address)
    (λ answer. if word_in answer == 0 then Finish (pushed count s) else counts room (address + 1) (count + 1) s)

unfoldable pub text_size : SpinState → Course SpinState
text_size s =
    tested 1 1 s (counts (room_from (operand s 0 % 2 ^ 16)) (operand s 0 % 2 ^ 16) 0 (taken 1 s))

-- 17 ( a b -- t ) a byte of a, and then of b, until they differ (0) or both are 0 (-1)
unfoldable pub compares : (room first second : ℕ) → SpinState → Course SpinState
compares zero first second s = rom_halt Byte first
compares (suc room) first second s =
    Ask (read_of Byte first)
    (λ one. if is_readable Byte second
    then Ask (read_of Byte second)
    (λ other. if word_in one == word_in other
    then (if word_in one == 0 then Finish (pushed (2 ^ 32 - 1) s) else compares room (first + 1) (second + 1) s)
    else Finish (pushed 0 s))
    else rom_halt Byte second)

unfoldable pub text_compare : SpinState → Course SpinState
text_compare s =
    tested 2 1 s
    (compares (room_from (operand s 1 % 2 ^ 16)) (operand s 1 % 2 ^ 16) (operand s 0 % 2 ^ 16) (taken 2 s))
