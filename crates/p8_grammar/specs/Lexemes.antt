-- What a token is to an expression.
use Rattle.std.specs.Prelude.{ℕ, Bool, true, false, List, Option, Some, None}
use Rattle.p8_tree.specs.declared.places.Place.{Place}

-- Where an expression stands. In an item of DAT's data no bracket outside parentheses and brackets
-- begins an index: it begins the item's count.
pub data Setting : Type 0 where
  in_method : Setting
  -- outside methods and DAT
  in_declaration : Setting
  in_dat : Setting
  in_data_item : Setting
  -- a statement that is an action: in its parentheses and brackets, and behind its assignment, stand values
  in_action : Setting

-- whether a value stands there, and not an action
abbrev pub is_value : Setting → Bool
is_value in_action = false
is_value _ = true

abbrev pub allows_index : Setting → Bool
allows_index in_data_item = false
allows_index _ = true

-- `$`, local labels and all registers stand in DAT alone
abbrev pub is_dat : Setting → Bool
is_dat in_dat = true
is_dat in_data_item = true
is_dat _ = false

-- the setting inside parentheses and brackets
abbrev pub inside : Setting → Setting
inside in_data_item = in_dat
inside in_action = in_method
inside s = s

-- the setting of what is assigned
abbrev pub behind : Setting → Setting
behind in_action = in_method
behind s = s

-- What may be done with a variable: those of main memory are read and written and have an address;
-- OUTA and DIRA are read and written, whole or by bits; INA is read, whole or by bits; PAR and CNT
-- are read; the other registers are read in DAT alone. An action writes its variable.
pub data Access : Type 0 where
  memory : Access
  pins : Access
  input_pins : Access
  input : Access
  assembly : Access

abbrev pub is_written : Access → Bool
is_written memory = true
is_written pins = true
is_written _ = false

abbrev pub has_bits : Access → Bool
has_bits pins = true
has_bits input_pins = true
has_bits _ = false

abbrev pub is_in : Setting → Access → Bool
is_in s memory = true
is_in s pins = true
is_in s input_pins = is_value s
is_in s input = is_value s
is_in s assembly = is_dat s

pub data Mark : Type 0 where
  left_parenthesis : Mark
  right_parenthesis : Mark
  left_bracket : Mark
  right_bracket : Mark
  comma : Mark
  colon : Mark
  dot : Mark
  dot_dot : Mark
  hash : Mark
  backslash : Mark
  equal : Mark

-- Numbers after a word are its bytecode or effect byte, a size in bytes or a register's address.
pub data Lexeme : Type 0 where
  number : ℕ → Lexeme
  -- a name in capitals
  name : List ℕ → Lexeme
  -- RESULT
  method_result : Lexeme
  -- a string's characters
  string : List ℕ → Lexeme
  mark : Mark → Lexeme
  -- an operator before its operand: its rank and its bytecode
  prefix_word : ℕ → ℕ → Lexeme
  -- an operator between its operands: its rank and its bytecode
  infix_word : ℕ → ℕ → Lexeme
  -- `+` or `-`: its bytecode before an operand, and between operands
  sign : ℕ → ℕ → Lexeme
  -- `:=`, or a binary operator with `=`
  assigns : Option ℕ → Lexeme
  -- `++`, `--`, `~` or `~~`: its effect byte before a variable, and after it
  changes : ℕ → ℕ → Lexeme
  -- `@` and `@@`
  address : Lexeme
  object_address : Lexeme
  -- BYTE, WORD or LONG
  size : ℕ → Lexeme
  register : ℕ → Access → Lexeme
  -- `$`
  here : Lexeme
  -- STRING and CONSTANT
  string_word : Lexeme
  constant_word : Lexeme
  -- a LOOK function
  look : ℕ → Lexeme
  -- COGID, CLKFREQ or CLKMODE
  value : ℕ → Lexeme
  -- another built-in that gives a value
  built_in : ℕ → Lexeme
  -- a built-in that gives no value: an action
  command : ℕ → Lexeme
  -- what stands in no expression and no action
  other : Lexeme
  -- a reserved word: its characters in capitals, and what it is
  reserved : List ℕ → Lexeme → Lexeme

-- what a word is, reserved or not
abbrev pub plain : Lexeme → Lexeme
plain (reserved n x) = x
plain x = x

-- the name that a word is behind the colon of a local label
abbrev pub name_in : Lexeme → Option (List ℕ)
name_in (name n) = Some n
name_in (reserved n x) = Some n
name_in _ = None

-- what a reserved word may be: no name, number, string or mark
abbrev pub is_free : Lexeme → Bool
is_free (name n) = false
is_free (number n) = false
is_free (string t) = false
is_free (mark m) = false
is_free (reserved n x) = false
is_free x = true

-- a token, at its place
pub data Token : Type 0 where
  token : Place → Lexeme → Token
