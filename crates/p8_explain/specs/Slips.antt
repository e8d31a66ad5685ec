-- Slips of the pen that are refused, each with the sentence that mends it (this project's profile). A slip is told by the refusal's number and by what its line
-- shows: the token before the place, the one at it and the one behind that. Each sentence is true of every source.
use Rattle.std.specs.Prelude.{ℕ, Bool, true, false, ◌==◌, ◌&&◌, ◌||◌, List, [], ◌∷◌, ◌++◌, length, map, codes, Option, Some, None, if◌then◌else◌}
use Rattle.std.specs.Borrow.{Bor}
use Rattle.p8_explain.specs.Standing.{begins_with}

abbrev pub Words : Type 0
Words = List (List ℕ)

-- ---- rows

-- the words of which one stands in each place, where none are any; and what is said there
pub record Slip : Type 0 where
  pub number : ℕ
  pub before : Words
  pub here : Words
  pub behind : Words
  pub sentence : List ℕ

abbrev pub slip : (number : ℕ) → (before here behind : Words) → (sentence : List ℕ) → Slip
slip number before here behind sentence = record { number = number; before = before; here = here; behind = behind; sentence = sentence }

-- words that take the same arguments, and these
pub record Form : Type 0 where
  pub words : Words
  pub arguments : List ℕ

abbrev pub form : (words : Words) → (arguments : List ℕ) → Form
form words arguments = record { words = words; arguments = arguments }

-- ---- reading

-- whether a text is a word, in letters of any case
abbrev pub is_word : (word text : List ℕ) → Bool
is_word word text = (length word == length text) && begins_with word text

abbrev pub is_one_of : Words → (text : List ℕ) → Bool
is_one_of [] text = false
is_one_of (w ∷ ws) text = is_word w text || is_one_of ws text

abbrev pub allows : Words → (text : List ℕ) → Bool
allows [] text = true
allows (w ∷ ws) text = is_one_of (w ∷ ws) text

abbrev pub is_slip : Slip → (number : ℕ) → (before here behind : List ℕ) → Bool
is_slip s number before here behind = (s.number == number) && (allows s.before before && (allows s.here here && allows s.behind behind))

-- the sentence of the first row that fits
abbrev pub first_slip : List Slip → (number : ℕ) → (before here behind : List ℕ) → Option (List ℕ)
first_slip [] number before here behind = None
first_slip (s ∷ ss) number before here behind = if is_slip s number before here behind then Some s.sentence else first_slip ss number before here behind

-- the arguments that a word takes
abbrev pub first_form : List Form → (word : List ℕ) → Option (List ℕ)
first_form [] word = None
first_form (f ∷ fs) word = if is_one_of f.words word then Some f.arguments else first_form fs word

-- the word whose form is told: at 6 the one before the place, at 17 the one at it
abbrev pub word_asked : (number : ℕ) → (before here : List ℕ) → List ℕ
word_asked number before here = if number == 6 then before else (if number == 17 then here else [])

abbrev pub form_text : (word arguments : List ℕ) → List ℕ
form_text word arguments = codes "In a method it is written `" ++ word ++ arguments ++ codes "`.\n"

abbrev pub by_form : Option (List ℕ) → (word other : List ℕ) → List ℕ
by_form None word other = other
by_form (Some arguments) word other = form_text word arguments

abbrev pub by_slip : Option (List ℕ) → (other : List ℕ) → List ℕ
by_slip None other = other
by_slip (Some sentence) other = sentence ++ codes "\n"

-- ---- the tables

abbrev any : Words
any = []

unfoldable pub slips : List Slip
slips =
    slip 2 any (codes "%" ∷ []) any (codes "`//` is the remainder of a division; `%` begins a number in base 2.")
    ∷ slip 6 any (codes "%" ∷ []) any (codes "`//` is the remainder of a division; `%` begins a number in base 2.")
    ∷ slip 6 any (codes "=" ∷ codes "==" ∷ []) any (codes "`==` compares and `:=` assigns; `=` alone defines constants in CON.")
    ∷ slip 6 any (codes ":=" ∷ []) any (codes "`:=` assigns to a variable, in a method; CON defines by `=`, and VAR gives no values.")
    ∷ slip 6 any (codes "!" ∷ []) (codes "=" ∷ []) (codes "`<>` is not equal; `!` inverts the bits of a value.")
    ∷ slip 6 (codes "&" ∷ []) (codes "&" ∷ []) any (codes "AND joins conditions; `&` joins the bits of two values.")
    ∷ slip 6 any (codes "||" ∷ []) any (codes "OR joins conditions; `||` before a value makes it absolute.")
    ∷ slip 6 any (codes "<=" ∷ codes ">=" ∷ []) any (codes "`=<` and `=>` compare; `<=` and `>=` assign to a variable.")
    ∷ slip 12 any any (codes "<=" ∷ codes ">=" ∷ []) (codes "`=<` and `=>` compare; `<=` and `>=` assign to a variable.")
    ∷ slip 6 any (codes "++" ∷ codes "--" ∷ []) any (codes "`++` and `--` change a variable, in a method; in CON, #5, a, b counts on from 5.")
    ∷ slip 12 any any (codes "++" ∷ codes "--" ∷ []) (codes "`++` and `--` change a variable, in a method; in CON, #5, a, b counts on from 5.")
    ∷ slip 6 (codes "+" ∷ codes "-" ∷ codes "*" ∷ codes "/" ∷ codes "=" ∷ codes "<" ∷ codes ">" ∷ codes "&" ∷ codes "|" ∷ codes "^" ∷ []) (codes "NOT" ∷ []) any
    (codes "Behind an operator that binds more strongly NOT stands in parentheses, as in 1 + (not y).")
    ∷ slip 6 (codes "(" ∷ codes "," ∷ codes "=" ∷ codes ":" ∷ codes "[" ∷ codes "+" ∷ codes "<" ∷ codes ">" ∷ []) (codes "\"" ∷ []) any
    (codes "A value in quotes has one character; a text of more stands in STRING, as m(string(\"abc\")), or in lines of data.")
    ∷ slip 6 (codes "ELSE" ∷ []) (codes "IF" ∷ codes "IFNOT" ∷ []) any
    (codes "ELSEIF and ELSEIFNOT are one word each; an IF of its own stands on the next line, further to the right.")
    ∷ slip 7 any (codes "WHILE" ∷ codes "UNTIL" ∷ []) any
    (codes "A loop with its test first is REPEAT WHILE or REPEAT UNTIL; WHILE or UNTIL alone ends a plain REPEAT at its column.")
    ∷ slip 6 any (codes "FROM" ∷ []) any (codes "The counter of REPEAT is a name alone, as in repeat i from 0 to 9.")
    ∷ slip 6 any (codes "CON" ∷ codes "VAR" ∷ codes "OBJ" ∷ codes "PUB" ∷ codes "PRI" ∷ codes "DAT" ∷ []) any
    (codes "CON, VAR, OBJ, PUB, PRI and DAT stand in column 1, and nowhere else.")
    ∷ slip 6 any (codes "WR" ∷ codes "NR" ∷ []) any
    (codes "RDBYTE, RDWORD and RDLONG always write their register, and WRBYTE, WRWORD and WRLONG never do: WR and NR stand with neither.")
    ∷ slip 6 any (codes "#" ∷ []) (codes "DEFINE" ∷ codes "UNDEF" ∷ codes "IFDEF" ∷ codes "IFNDEF" ∷ codes "INCLUDE" ∷ codes "ELSE" ∷ codes "ENDIF" ∷ [])
    (codes "The Manual has no preprocessor: define numbers in CON, and take in files by OBJ.")
    ∷ slip 6 (codes "DEFINE" ∷ codes "UNDEF" ∷ codes "IFDEF" ∷ codes "IFNDEF" ∷ codes "INCLUDE" ∷ []) any any
    (codes "The Manual has no preprocessor: define numbers in CON, and take in files by OBJ.")
    ∷ slip 6 (codes "." ∷ []) (codes "BYTE" ∷ codes "WORD" ∷ codes "LONG" ∷ []) any
    (codes "`.byte`, `.word` and `.long` are parts of a name alone: for b[1].byte[2] write byte[@b[1]][2].")
    ∷ slip 6 (codes "," ∷ []) (codes "BYTE" ∷ codes "WORD" ∷ codes "LONG" ∷ []) any
    (codes "A line of VAR has one size: begin a new line for another. Parameters and locals are longs, and have no size word.")
    ∷ slip 6 (codes "|" ∷ codes "(" ∷ []) (codes "BYTE" ∷ codes "WORD" ∷ codes "LONG" ∷ []) any
    (codes "Parameters and locals are longs, and have no size word; a local may be an array of longs.")
    ∷ slip 6 (codes ":" ∷ []) (codes "RESULT" ∷ []) any (codes "A method's result needs no name: RESULT is there without it.")
    ∷ slip 6 (codes "#" ∷ [])
    (codes "ABS" ∷ codes "ADD" ∷ codes "AND" ∷ codes "CALL" ∷ codes "CMP" ∷ codes "JMP" ∷ codes "MAX" ∷ codes "MIN" ∷ codes "MOV" ∷
    codes "MUL" ∷ codes "NEG" ∷ codes "NEXT" ∷ codes "NOP" ∷ codes "OR" ∷ codes "QUIT" ∷ codes "REPEAT" ∷ codes "RET" ∷ codes "RETURN" ∷
    codes "REV" ∷ codes "ROL" ∷ codes "ROR" ∷ codes "SAR" ∷ codes "SHL" ∷ codes "SHR" ∷ codes "SUB" ∷ codes "TEST" ∷ codes "WAITCNT" ∷
    codes "XOR" ∷ []) any
    (codes "A reserved word can be the name of a local label alone, as :sub in jmp #:sub.")
    ∷ slip 9 any (codes "PI" ∷ []) any (codes "In thousandths PI is 3142.")
    ∷ slip 9 any (codes "FLOAT" ∷ codes "ROUND" ∷ codes "TRUNC" ∷ []) any
    (codes "Where numbers are in thousandths, FLOAT(x) is x * 1000, and TRUNC(x) is x / 1000.")
    ∷ slip 10 any (codes "?" ∷ []) any (codes "There is no `?` here: write a generator of your own, as x := x * 1664525 + 1013904223.")
    ∷ slip 10 any (codes "CTRA" ∷ codes "CTRB" ∷ codes "FRQA" ∷ codes "FRQB" ∷ codes "PHSA" ∷ codes "PHSB" ∷ []) any
    (codes "There are no counters here: a loop with WAITCNT, in a cog of its own, makes such signals.")
    ∷ slip 10 any (codes "SPR" ∷ []) any (codes "Write the register's name: dira for spr[6], outa for spr[4].")
    ∷ slip 10 any (codes "INB" ∷ codes "OUTB" ∷ codes "DIRB" ∷ []) any (codes "There is no port B here: the pins are 0 to 31, in INA, OUTA and DIRA.")
    ∷ slip 10 any (codes "VCFG" ∷ codes "VSCL" ∷ codes "WAITVID" ∷ []) any (codes "There is no video here.")
    ∷ slip 10 any (codes "CHIPVER" ∷ []) any (codes "The chip is the P8X32A, of which CHIPVER is 1: write 1.")
    ∷ slip 10 any (codes "CLKSET" ∷ codes "REBOOT" ∷ []) any (codes "There is no reset here, and the clock is that of _clkmode in CON.")
    ∷ slip 10 any (codes "FILE" ∷ []) any (codes "Write the bytes of the file in lines of BYTE.")
    ∷ []

unfoldable pub forms : List Form
forms =
    form (codes "COGID" ∷ codes "CLKFREQ" ∷ codes "CLKMODE" ∷ codes "LOCKNEW" ∷ []) (codes "")
    ∷ form (codes "COGNEW" ∷ []) (codes "(method, stack)` or `cognew(@label, parameter)")
    ∷ form (codes "COGINIT" ∷ []) (codes "(cog, method, stack)` or `coginit(cog, @label, parameter)")
    ∷ form (codes "COGSTOP" ∷ []) (codes "(cog)")
    ∷ form (codes "LOCKRET" ∷ codes "LOCKSET" ∷ codes "LOCKCLR" ∷ []) (codes "(lock)")
    ∷ form (codes "WAITCNT" ∷ []) (codes "(clock)")
    ∷ form (codes "WAITPEQ" ∷ codes "WAITPNE" ∷ []) (codes "(state, mask, 0)")
    ∷ form (codes "BYTEFILL" ∷ codes "WORDFILL" ∷ codes "LONGFILL" ∷ []) (codes "(to, value, count)")
    ∷ form (codes "BYTEMOVE" ∷ codes "WORDMOVE" ∷ codes "LONGMOVE" ∷ []) (codes "(to, from, count)")
    ∷ form (codes "STRSIZE" ∷ []) (codes "(text)")
    ∷ form (codes "STRCOMP" ∷ []) (codes "(text, text)")
    ∷ form (codes "LOOKUP" ∷ codes "LOOKUPZ" ∷ []) (codes "(index: value, value)")
    ∷ form (codes "LOOKDOWN" ∷ codes "LOOKDOWNZ" ∷ []) (codes "(value: value, value)")
    ∷ form (codes "STRING" ∷ []) (codes "(\"text\")")
    ∷ form (codes "CONSTANT" ∷ []) (codes "(value)")
    ∷ []

-- what is told at a place of what the tables have, and else another text
abbrev pub mended : (number : ℕ) → (before here behind other : List ℕ) → List ℕ
mended number before here behind other = by_slip (first_slip slips number before here behind) (formed (word_asked number before here))
  where
    formed : (word : List ℕ) → List ℕ
    formed word = by_form (first_form forms word) word other

-- ---- the tables as the code has them

abbrev pub now_of : Bor (List ℕ) → List ℕ
now_of text = text.now

abbrev pub words_of : List (Bor (List ℕ)) → Words
words_of = map now_of

abbrev pub SlipHeld : Type 0
SlipHeld = ℕ × Bor (List (Bor (List ℕ))) × Bor (List (Bor (List ℕ))) × Bor (List (Bor (List ℕ))) × Bor (List ℕ)

abbrev pub slip_of : SlipHeld → Slip
slip_of r = slip r.0 (words_of r.1.now) (words_of r.2.now) (words_of r.3.now) r.4.now

abbrev pub FormHeld : Type 0
FormHeld = Bor (List (Bor (List ℕ))) × Bor (List ℕ)

abbrev pub form_of : FormHeld → Form
form_of r = form (words_of r.0.now) r.1.now

abbrev pub text_of : Option (Bor (List ℕ)) → Option (List ℕ)
text_of None = None
text_of (Some text) = Some text.now
