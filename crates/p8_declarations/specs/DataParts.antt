-- What the pieces of a line of DAT are to it (Propeller Manual v1.2, "Propeller Assembly Language Reference").
use Rattle.std.specs.Prelude.{ℕ, List, [], ◌∷◌, Option, Some, None, map}
use Rattle.p8_tree.specs.declared.places.Place.{Place}
use Rattle.p8_tree.specs.Expressions.{Tree}
use Rattle.p8_lexer.specs.declared.word.Word.{Word}
use Rattle.p8_lexer.specs.declared.word.Word.TheVariants as word
use Rattle.p8_lexer.specs.declared.meaning.Meaning.{Meaning}
use Rattle.p8_lexer.specs.declared.meaning.Meaning.TheVariants as meant
use Rattle.p8_lexer.specs.Meanings.{meaning}
use Rattle.p8_lexer.specs.Pieces as pieces
use Rattle.p8_lexer.specs.Pieces.{Piece}

pub data Part : Type 0 where
  line_end : Part
  colon : Place → Part
  comma : Part
  hash : Part
  left_bracket : Part
  right_bracket : Part
  -- BYTE, WORD or LONG, and how many bytes that is
  size : ℕ → Place → Part
  org : Place → Part
  res : Place → Part
  fit : Place → Part
  -- a condition: bit 2C + Z says whether the instruction is executed
  condition : ℕ → Part
  -- an effect, as a bit
  effect : ℕ → Part
  -- JMP
  jump : Place → Part
  -- any other word, as that of an instruction
  other : Word → Place → Part
  name : List ℕ → Place → Part
  -- the word behind a local label's colon
  behind_colon : List ℕ → Place → Part
  text : List ℕ → Place → Part
  tree : Tree → Place → Part

-- a condition, an effect, or another word, by what it means
abbrev pub part_of_meaning : Meaning → Word → Place → Part
part_of_meaning (meant.Condition bits) w p = condition bits
part_of_meaning (meant.Effect bit) w p = effect bit
part_of_meaning m w p = other w p

-- what a word is
unfoldable pub part_of_word : Word → Place → Part
part_of_word word.LineEnd p = line_end
part_of_word word.Colon p = colon p
part_of_word word.Comma p = comma
part_of_word word.Hash p = hash
part_of_word word.LeftBracket p = left_bracket
part_of_word word.RightBracket p = right_bracket
part_of_word word.ByteSize p = size 1 p
part_of_word word.WordSize p = size 2 p
part_of_word word.LongSize p = size 4 p
part_of_word word.Org p = org p
part_of_word word.Res p = res p
part_of_word word.Fit p = fit p
part_of_word word.Jmp p = jump p
part_of_word w p = part_of_meaning (meaning w) w p

abbrev pub part_of_piece : Piece → Part
part_of_piece (pieces.word w p) = part_of_word w p
part_of_piece (pieces.name n p) = name n p
part_of_piece (pieces.label n p) = behind_colon n p
part_of_piece (pieces.text t p) = text t p
part_of_piece (pieces.tree e p) = tree e p

-- where a piece stands
abbrev pub place_of : Piece → Place
place_of (pieces.word w p) = p
place_of (pieces.name n p) = p
place_of (pieces.label n p) = p
place_of (pieces.text t p) = p
place_of (pieces.tree e p) = p

-- what stands before the line's end
abbrev pub before_end : List Part → List Part
before_end [] = []
before_end (line_end ∷ row) = []
before_end (x ∷ row) = x ∷ before_end row

-- the parts of a row of pieces
abbrev pub parts : List Piece → List Part
parts row = before_end (map part_of_piece row)

-- the field of a condition
abbrev pub field_of : Part → Option ℕ
field_of (condition c) = Some c
field_of x = None
