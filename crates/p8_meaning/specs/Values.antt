-- What numbers are to a method: words, seen as signed where they are compared, and fields of pins (`p8_words`); conditions, and changes of a variable.
-- Sources: the Propeller Manual v1.2, "Operators", "IF" and "REPEAT" of the Spin chapter.
use Rattle.std.specs.Prelude.{ℕ, ◌+◌, ◌==◌, not, ◌&&◌, ◌||◌, Bool, nat_lt, nat_le, if◌then◌else◌}
use Rattle.p8_words.specs.Operators.{is_unary, unary_value, binary_value}
pub use Rattle.p8_words.specs.Fields.{is_at_most, is_between, sum_of, difference, distance, toward, stepped, count_of, extended}
pub use Rattle.p8_words.specs.Fields.{pins_in, ones, ordered, pins_of, mask_of, with_pins}

-- a condition holds for all but 0, and one of IFNOT or UNTIL for 0 alone
abbrev pub holds : (negated : Bool) (value : ℕ) → Bool
holds negated value = if negated then value == 0 else not (value == 0)

-- ---- changes of a variable, numbered as trees number them

-- `~` and `~~` before a variable, which write it (profile); `++`; `--`; a unary operator E0 + k that stands alone with it, as 40 + k
abbrev pub changed : (change value : ℕ) → ℕ
changed change value =
    if change == 0x10 then extended 8 value
    else if change == 0x14 then extended 16 value
    else if nat_lt change 0x30 then sum_of value 1
    else if nat_lt change 0x40 then difference value 1
    else if is_unary (change + 0xA0) then unary_value (change + 0xA0) value
    else binary_value (change + 0xA0) value 0

-- `++` and `--` after a variable give the old value
abbrev pub gives_old : (change : ℕ) → Bool
gives_old change = (nat_le 0x28 change && nat_lt change 0x30) || (nat_le 0x38 change && nat_lt change 0x40)
