-- Words as Spin and its bytecodes compare, count and step them, and the fields of pins in a register's word. Every sum and difference is taken mod 2 ^ 32.
-- Sources: the Propeller Manual v1.2, "Operators", "REPEAT", "CASE", "LOOKUP", "LOOKDOWN", "OUTA" and "DIRA" of the Spin chapter; what is marked is this
-- project's profile. These are facts about numbers alone: what a source means and what a bytecode does both speak of them.
use Rattle.std.specs.Prelude.{ℕ, ◌+◌, ◌-◌, ◌*◌, ◌/◌, ◌%◌, ◌^◌, min, ◌&&◌, ◌||◌, Bool, int_le, nat_lt, nat_le, bit_and, bit_or, if◌then◌else◌}
use Rattle.p8_words.specs.Words.{signed_value, reversed}

-- ---- signed values

abbrev pub is_at_most : (a b : ℕ) → Bool
is_at_most a b = int_le (signed_value a) (signed_value b)

-- between two ends, in either order
abbrev pub is_between : (v a b : ℕ) → Bool
is_between v a b = (is_at_most a v && is_at_most v b) || (is_at_most b v && is_at_most v a)

abbrev pub sum_of : (a b : ℕ) → ℕ
sum_of a b = (a + b) % 2 ^ 32

abbrev pub difference : (a b : ℕ) → ℕ
difference a b = (a + (2 ^ 32 - b)) % 2 ^ 32

-- how far two signed values are apart
abbrev pub distance : (a b : ℕ) → ℕ
distance a b = if is_at_most a b then difference b a else difference a b

-- the value that lies so far from a toward b
abbrev pub toward : (a b far : ℕ) → ℕ
toward a b far = if is_at_most a b then sum_of a far else difference a far

-- the counter of a REPEAT with FROM, TO and STEP after a pass: it goes up where `from` is at most `to`, signed, else down (profile)
abbrev pub stepped : (value by from to : ℕ) → ℕ
stepped value by from to = if is_at_most from to then sum_of value by else difference value by

-- the count of a FILL or a MOVE: one that is negative is 0 (profile)
abbrev pub count_of : (value : ℕ) → ℕ
count_of value = if nat_lt value (2 ^ 31) then value else 0

-- the sign of bit 7 or of bit 15 is extended
abbrev pub extended : (bits value : ℕ) → ℕ
extended bits value =
    if nat_lt (value % 2 ^ bits) (2 ^ (bits - 1)) then value % 2 ^ bits else value % 2 ^ bits + (2 ^ 32 - 2 ^ bits)

-- ---- pins of a register: those from `high` to `low`, of which `low` is bit 0 of the field's value

-- how many pins there are from one to another, in either order
abbrev pub pins_in : (high low : ℕ) → ℕ
pins_in high low = (if nat_le low high then high - low else low - high) + 1

-- a word of so many ones
abbrev pub ones : (count : ℕ) → ℕ
ones count = (2 ^ 32 - 1) / 2 ^ (32 - count)

-- these bits in the order of the pins: the opposite one where the pin of the highest bit is the lesser
abbrev pub ordered : (high low bits : ℕ) → ℕ
ordered high low bits = if nat_le low high then bits else reversed bits / 2 ^ (32 - pins_in high low)

-- the value of the field, by the register's word
abbrev pub pins_of : (high low word : ℕ) → ℕ
pins_of high low word = ordered high low (bit_and (word / 2 ^ min high low) (ones (pins_in high low)))

abbrev pub mask_of : (high low : ℕ) → ℕ
mask_of high low = ones (pins_in high low) * 2 ^ min high low % 2 ^ 32

-- the register's word with a new value of the field; all other pins stay
abbrev pub with_pins : (high low value word : ℕ) → ℕ
with_pins high low value word =
    bit_or (bit_and word (2 ^ 32 - 1 - mask_of high low)) (ordered high low (bit_and value (ones (pins_in high low))) * 2 ^ min high low % 2 ^ 32)
