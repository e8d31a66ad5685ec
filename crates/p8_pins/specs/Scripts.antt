-- Which files are pin scripts, and which line of another file is its first bad one (this project's
-- profile). A file's lines end with LF or CR LF, the last may lack it, and are counted from 1.
use Rattle.std.specs.Prelude.{ℕ, ◌-◌, ◌≡◌, ◌<◌, ◌≤◌, ◌==◌, ◌⊎◌, Bool, true, not, List, [], ◌∷◌, ◌++◌, length, take, map, filter, codes}
use Rattle.std.specs.List.{AllZip}
use Rattle.std.specs.List.Sorted.{IsStrictlyIncreasing}
use Rattle.std.specs.Str.Lines.{lines}
use Rattle.std.specs.Str.Parse.{AllDigits, digits_value}
use Rattle.p8_words.specs.declared.failure.Fail.{Fail}
use Rattle.p8_words.specs.declared.failure.Fail.TheVariants.{Refused, NoMemory}
use Rattle.p8_pins.specs.declared.script_fault.ScriptFault.{ScriptFault}
use Rattle.p8_access.specs.Worlds.{Line}

-- the greatest length of a file, in bytes
abbrev pub most_bytes : ℕ
most_bytes = 1048576

-- how many lines of a file carry a clock at most
abbrev pub most_lines : ℕ
most_lines = 100000

-- a line that is skipped is empty or begins with `#`, which is 35
abbrev pub is_skipped : List ℕ → Bool
is_skipped [] = true
is_skipped (byte ∷ rest) = byte == 35

-- a text carries a line of a script: one to ten decimal digits, the clock; one space; eight
-- hexadecimal digits of either case, the levels
pub record Carries (text : List ℕ) (line : Line) : Type 0 where
  pub decimal : List ℕ
  pub hexadecimal : List ℕ
  pub parts : text ≡ decimal ++ (codes " " ++ hexadecimal)
  pub decimal_digits : AllDigits 10 decimal
  pub decimal_length : (1 ≤ length decimal) × (length decimal ≤ 10)
  pub clock : line.clock ≡ digits_value 10 decimal
  pub hexadecimal_digits : AllDigits 16 hexadecimal
  pub hexadecimal_length : length hexadecimal ≡ 8
  pub levels : line.levels ≡ digits_value 16 hexadecimal

-- the clocks of a script
abbrev pub clocks_of : List Line → List ℕ
clocks_of script = map (λ (line : Line). line.clock) script

-- these lines of text are a script: it is what they carry, in order, but for those that are skipped;
-- its clocks rise strictly, and it has no more lines than a script may have
pub record IsScript (texts : List (List ℕ)) (script : List Line) : Type 0 where
  pub carried : AllZip Carries (filter (λ text. not (is_skipped text)) texts) script
  pub rising : IsStrictlyIncreasing (clocks_of script)
  pub count : length script ≤ most_lines

-- line n is the first bad one: the lines before it are a script, and with it they are none
pub record IsFirstBad (texts : List (List ℕ)) (n : ℕ) : Type 0 where
  pub is_line : (1 ≤ n) × (n ≤ length texts)
  pub before : (script : List Line) × IsScript (take (n - 1) texts) script
  pub bad : (script : List Line) → IsScript (take n texts) script → ⊥

-- a file is read as this script
pub record IsReadAs (bytes : List ℕ) (script : List Line) : Type 0 where
  pub size : length bytes ≤ most_bytes
  pub reads : IsScript (lines bytes) script

-- what is told of a file that is no script: its first bad line, or 0 where it is too long
abbrev pub IsFault : List ℕ → ℕ → Type 0
IsFault bytes n = ((most_bytes < length bytes) × (n ≡ 0)) ⊎ ((length bytes ≤ most_bytes) × IsFirstBad (lines bytes) n)

-- what a refusal tells of a file; want of memory tells nothing
abbrev pub Tells : List ℕ → Fail ScriptFault → Type 0
Tells bytes (Refused fault) = IsFault bytes fault.line
Tells bytes NoMemory = Unit {0}
