-- Which tokens an arrow of the diagram stands for (Propeller Manual v1.2, "Reserved Words").
use Rattle.std.specs.Prelude.{◌≡◌, ℕ, ◌<◌, Bool, true, false, ◌||◌, IsTrue}
use Rattle.p8_tree.specs.Names.{begins_name}
use Rattle.p8_lexer.specs.declared.word.Word.{Word}
use Rattle.p8_lexer.specs.declared.word.Word.TheVariants as word
use Rattle.p8_lexer.specs.declared.meaning.Meaning.{Meaning}
use Rattle.p8_lexer.specs.declared.meaning.Meaning.TheVariants as meant
use Rattle.p8_lexer.specs.Words.{spelling}
use Rattle.p8_lexer.specs.Meanings.{meaning}
use Rattle.p8_lines.specs.declared.sign.Sign.{Sign}
use Rattle.p8_lines.specs.declared.sign.Sign.TheVariants as sign

-- BYTE, WORD and LONG
abbrev pub is_size : Word → Bool
is_size w = sized (meaning w)
  where
    sized : Meaning → Bool
    sized (meant.Size bytes) = true
    sized _ = false

-- the conditions of an instruction
abbrev pub is_condition : Word → Bool
is_condition w = conditional (meaning w)
  where
    conditional : Meaning → Bool
    conditional (meant.Condition bits) = true
    conditional _ = false

-- the instructions with a destination and a source, but for those on main memory
abbrev pub takes_two : Word → Bool
takes_two word.And = true
takes_two word.Or = true
takes_two word.Waitpeq = true
takes_two word.Waitpne = true
takes_two word.Waitcnt = true
takes_two w = with_two (meaning w)
  where
    with_two : Meaning → Bool
    with_two meant.TwoOperands = true
    with_two _ = false

-- the instructions on main memory
abbrev pub is_on_memory : Word → Bool
is_on_memory w = reaches_memory (meaning w)
  where
    reaches_memory : Meaning → Bool
    reaches_memory meant.OnMemory = true
    reaches_memory _ = false

-- the instructions with a destination alone
abbrev pub takes_one : Word → Bool
takes_one word.Clkset = true
takes_one word.Cogid = true
takes_one word.Coginit = true
takes_one word.Cogstop = true
takes_one word.Locknew = true
takes_one word.Lockret = true
takes_one word.Lockset = true
takes_one word.Lockclr = true
takes_one _ = false

-- WZ and WC
abbrev pub is_flag : Word → Bool
is_flag word.Wz = true
is_flag word.Wc = true
is_flag _ = false

-- WR and NR
abbrev pub is_write : Word → Bool
is_write word.Wr = true
is_write word.Nr = true
is_write _ = false

-- a name that isn't reserved
abbrev pub is_name : Word → Bool
is_name word.Name = true
is_name _ = false

-- a name, or a reserved word: what may stand behind the colon of a local label
abbrev pub is_label : Word → Bool
is_label w = begins_name (spelling w) || is_name w

-- a token with this word, and with so many characters between its quotes, is one of these
abbrev pub Matches : Sign → Word → ℕ → Type 0
Matches (sign.Word w) v n = v ≡ w
Matches sign.Size v n = IsTrue (is_size v)
Matches sign.Text v n = (v ≡ word.Str) × (0 < n)
Matches sign.LongText v n = (v ≡ word.Str) × (1 < n)
Matches sign.Condition v n = IsTrue (is_condition v)
Matches sign.TwoOperands v n = IsTrue (takes_two v)
Matches sign.Memory v n = IsTrue (is_on_memory v)
Matches sign.OneOperand v n = IsTrue (takes_one v)
Matches sign.Flag v n = IsTrue (is_flag v)
Matches sign.Write v n = IsTrue (is_write v)
Matches sign.Label v n = IsTrue (is_label v)
