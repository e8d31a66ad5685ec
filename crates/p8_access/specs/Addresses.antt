-- Addresses of hub memory, the cogs that a number names, and the words of answers, as Spin and its bytecodes take them (this project's profile).
use Rattle.std.specs.Prelude.{ℕ, ◌+◌, ◌-◌, ◌*◌, ◌/◌, ◌%◌, ◌^◌, nat_lt, Bool, true, false, Option, Some, None, if◌then◌else◌}
use Rattle.p8_access.specs.declared.kinds.Width.{Width}
use Rattle.p8_access.specs.declared.kinds.Answer.{Answer}
use Rattle.p8_access.specs.declared.kinds.Answer.TheVariants.{Done, Value, Number, Was}
use Rattle.p8_access.specs.Proper.{bytes_in}

-- an address is taken mod 65,536 and rounded down to a multiple of the width
abbrev pub aligned : Width → (address : ℕ) → ℕ
aligned width address = address % 2 ^ 16 / bytes_in width * bytes_in width

-- ROM, from $8000 on, can't be read: the cog halts in place of the read
abbrev pub is_readable : Width → (address : ℕ) → Bool
is_readable width address = nat_lt (aligned width address) 32768

-- from an address below $8000 so many bytes can be read
abbrev pub room_from : (address : ℕ) → ℕ
room_from address = 32768 - address

-- the next element of a row
abbrev pub next_address : Width → (address : ℕ) → ℕ
next_address width address = (address + bytes_in width) % 2 ^ 16

-- the low 16 bits of a value with bits 1 and 0 cleared
abbrev pub long_address : (value : ℕ) → ℕ
long_address value = value % 2 ^ 16 / 4 * 4

-- an id of 0 to 7 names a cog, and another one asks for a new cog
abbrev pub cog_named : (id : ℕ) → Option ℕ
cog_named id = if nat_lt id 8 then Some id else None

-- the word of an answer: -1 where no cog or lock was free, and for a lock that was set
abbrev pub word_in : Answer → ℕ
word_in (Value value) = value
word_in (Number (Some n)) = n
word_in (Number None) = 2 ^ 32 - 1
word_in (Was true) = 2 ^ 32 - 1
word_in (Was false) = 0
word_in Done = 0
