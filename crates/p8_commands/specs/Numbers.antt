-- Numbers and ranges in words of the command line, with their limits (this project's profile). A word is a list of bytes.
use Rattle.std.specs.Prelude.{ℕ, ◌+◌, ◌-◌, ◌*◌, nat_le, if◌then◌else◌, ◌&&◌, ◌||◌, ◌==◌, Bool, List, [], ◌∷◌, Option, Some, None, option_and_then, length}
use Rattle.std.specs.List.{list_all}

-- the number of the last refusal of a source
abbrev pub last_refusal : ℕ
last_refusal = 31

-- a decimal digit
abbrev pub is_digit : ℕ → Bool
is_digit code = nat_le 48 code && nat_le code 57

-- the number that these digits go on to
abbrev pub value_from : ℕ → List ℕ → ℕ
value_from number [] = number
value_from number (digit ∷ digits) = value_from (10 * number + (digit - 48)) digits

-- the number of decimal digits, where it is at most a limit
abbrev pub value_within : ℕ → List ℕ → Option ℕ
value_within limit text =
    if list_all is_digit text && nat_le (value_from 0 text) limit then Some (value_from 0 text) else None

-- the number of one to ten decimal digits, where it is at most a limit
abbrev pub number_of : ℕ → List ℕ → Option ℕ
number_of limit text =
    if nat_le 1 (length text) && nat_le (length text) 10 then value_within limit text else None

-- such a number that is also at least another one
abbrev pub number_from : (least limit : ℕ) → List ℕ → Option ℕ
number_from least limit text = option_and_then (λ number. if nat_le least number then Some number else None) (number_of limit text)

-- the one digit of a cog
abbrev pub cog_of : List ℕ → Option ℕ
cog_of (code ∷ []) = if nat_le 48 code && nat_le code 55 then Some (code - 48) else None
cog_of _ = None

-- the number of a refusal, of one or two decimal digits
abbrev pub refusal_of : List ℕ → Option ℕ
refusal_of text = if nat_le (length text) 2 then number_from 1 last_refusal text else None

-- a hexadecimal digit, in capitals or small letters
abbrev pub is_hexadecimal : ℕ → Bool
is_hexadecimal code = is_digit code || (nat_le 65 code && nat_le code 70) || (nat_le 97 code && nat_le code 102)

abbrev pub hexadecimal_value : ℕ → ℕ
hexadecimal_value code = if nat_le code 57 then code - 48 else (if nat_le code 70 then code - 55 else code - 87)

abbrev pub hexadecimal_digit : ℕ → Option ℕ
hexadecimal_digit code = if is_hexadecimal code then Some (hexadecimal_value code) else None

-- a number of four hexadecimal digits
abbrev pub address_by : Option ℕ → Option ℕ → Option ℕ → Option ℕ → Option ℕ
address_by (Some a) (Some b) (Some c) (Some d) = Some (4096 * a + 256 * b + 16 * c + d)
address_by _ _ _ _ = None

-- a number of one to five decimal digits
abbrev pub count_of : List ℕ → Option ℕ
count_of text = if nat_le 1 (length text) && nat_le (length text) 5 then value_within 99999 text else None

-- a range of hub RAM that isn't empty: an address and how many bytes
abbrev pub range_by : Option ℕ → Option ℕ → Option (ℕ × ℕ)
range_by (Some address) (Some count) =
    if nat_le 1 count && nat_le (address + count) 32768 then Some (address, count) else None
range_by _ _ = None

-- the range that `A:N` says
abbrev pub range_of : List ℕ → Option (ℕ × ℕ)
range_of (a ∷ b ∷ c ∷ d ∷ colon ∷ count) =
    if colon == 58
    then range_by (address_by (hexadecimal_digit a) (hexadecimal_digit b) (hexadecimal_digit c) (hexadecimal_digit d)) (count_of count)
    else None
range_of _ = None

-- the greatest number of clocks of a run that is traced or saved, or of which bytes are read, and the greatest clock at which bytes are sent
abbrev pub most_clocks : ℕ
most_clocks = 100000000

-- the greatest number of clocks of a run that is shown, as a wave, a picture, a view or a page: 50 seconds at 80 MHz
abbrev pub most_shown_clocks : ℕ
most_shown_clocks = 4000000000

-- the greatest number of turns that may be asked for, and how many a run makes at most where none is
abbrev pub most_turns : ℕ
most_turns = 1000000

abbrev pub usual_turns : ℕ
usual_turns = 100000

-- the greatest number of turns of a history that is kept in a file, and how many it has at most where none is asked for
abbrev pub most_saved_turns : ℕ
most_saved_turns = 40000

-- the greatest number of turns that a page shows, and how many it has at most where none is asked for
abbrev pub most_page_turns : ℕ
most_page_turns = 20000

-- the number of the last pin
abbrev pub last_pin : ℕ
last_pin = 31

-- the number of the last cog
abbrev pub last_cog : ℕ
last_cog = 7

-- how many clocks a bit has at least and at most
abbrev pub least_bits : ℕ
least_bits = 2

abbrev pub most_bits : ℕ
most_bits = 10000

-- how many columns a picture has at most: what may be asked for, and where nothing is
abbrev pub least_columns : ℕ
least_columns = 20

abbrev pub most_columns : ℕ
most_columns = 400

abbrev pub usual_columns : ℕ
usual_columns = 101

-- the greatest seed of a made program
abbrev pub most_seed : ℕ
most_seed = 4294967295
