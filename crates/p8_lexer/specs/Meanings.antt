-- What words mean, and which word has a number that trees have.
use Rattle.std.specs.Prelude.{◌==◌, ◌||◌, Bool, false, if◌then◌else◌, List, [], ◌∷◌, map, Option, Some, None}
use Rattle.p8_lexer.specs.declared.word.Word.{Word}
use Rattle.p8_lexer.specs.declared.meaning.Meaning.{Meaning}
use Rattle.p8_lexer.specs.declared.meaning.Meaning.TheVariants as meant
use Rattle.p8_lexer.specs.declared.meaning.Sought.{Sought}
use Rattle.p8_lexer.specs.declared.meaning.Sought.TheVariants as sought
use Rattle.p8_lexer.specs.Words.{entry}
use Rattle.p8_lexer.specs.Table.{Row, rows}

-- what a word means
abbrev pub meaning : Word → Meaning
meaning w = (entry w).meaning

-- whether a word that means this is sought
abbrev pub finds : Sought → Meaning → Bool
finds (sought.Operator k) (meant.Sign before between) = before == k || between == k
finds (sought.Operator k) (meant.Prefix rank code) = code == k
finds (sought.Operator k) (meant.Infix rank code) = code == k
finds (sought.Assignment k) (meant.Assigns (Some code)) = code == k
finds (sought.Change k) (meant.Changes before after) = before == k || after == k
finds (sought.Size k) (meant.Size bytes) = bytes == k
finds (sought.Register k) (meant.Register address) = address == k
finds (sought.BuiltIn k) meant.ConstantWord = k == 0
finds (sought.BuiltIn k) (meant.Look code) = code == k
finds (sought.BuiltIn k) (meant.Value code) = code == k
finds (sought.BuiltIn k) (meant.BuiltIn code) = code == k
finds (sought.BuiltIn k) (meant.Command code) = code == k
finds (sought.Condition k) (meant.Condition bits) = bits == k
finds s m = false

-- the first of these words that is sought so
abbrev pub first_by : Sought → List Word → Option Word
first_by s [] = None
first_by s (w ∷ ws) = if finds s (meaning w) then Some w else first_by s ws

-- the first word of the table that is sought so
unfoldable pub word_by : Sought → Option Word
word_by s = first_by s (map (λ (r : Row). r.1) rows)
