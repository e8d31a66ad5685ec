-- Which bytes are a source, by the code's table of words and by the code's functions of rows. It is what the sentence says (`Saying`).
use Rattle.std.specs.Prelude.{◌≡◌, ◌⊎◌, ℕ, ◌≤◌, Bool, ◌&&◌, not, if◌then◌else◌, List, [], ◌∷◌, ◌++◌, length, map, Option, Some, None, is_some, true, nat_lt}
use Rattle.std.specs.List.{list_any, list_all}
use Rattle.p8_tree.specs.Expressions.{Tree}
use Rattle.p8_tree.specs.Sources as sources
use Rattle.p8_tree.specs.Sources.{Constant, Declared, Child, MethodTree, BlockTree, Source}
use Rattle.p8_tree.specs.Statements.{Statements}
use Rattle.p8_instr.specs.Mnemonics.{entry_of, mnemonics}
use Rattle.p8_lexer.specs.declared.word.Word.{Word}
use Rattle.p8_lexer.specs.declared.word.Word.TheVariants as words
use Rattle.p8_lexer.specs.Words.{spelling}
use Rattle.p8_lexer.specs.Lexing.{longest_file}
use Rattle.p8_lexer.specs.Pieces.{Piece, label, tree}
use Rattle.p8_grammar.specs.Lexemes.{in_dat, in_data_item, name_in}
use Rattle.p8_grammar.specs.Grammar.{IsExpression}
use Rattle.p8_columns.specs.Lines as lines
use Rattle.p8_columns.specs.Lines.{Kind}
use Rattle.p8_columns.specs.Blocks.{AreStatements}
use Rattle.p8_lines.specs.Signs.{is_size}
use Rattle.p8_lines.specs.Tokens.{LineToken, with_end, word, lexeme, piece, terms}
use Rattle.p8_declarations.specs.Constants.{constants_of_row}
use Rattle.p8_declarations.specs.Variables.{variables_of_row}
use Rattle.p8_declarations.specs.Objects.{objects_of_row}
use Rattle.p8_declarations.specs.Methods.{method_of_row}
use Rattle.p8_declarations.specs.DataParts.{Part, other, text, part_of_piece}
use Rattle.p8_statements.specs.Statements.{kind_of_row}
use Rattle.p8_blocks.specs.Files.{lines_of_row, IsHead, method_word, first_block}
use Rattle.p8_prop.specs.Cutting.{AreTokens}
pub use Rattle.p8_prop.specs.Sources.{Spelling, declared, headed, in_text, is_open, with_body}

-- ---- lines

-- These tokens are a line with these pieces, behind those with these words: words, names and whole expressions, up to the end of the line or to a colon.
-- A label is a name or a reserved word, told by its characters.
pub data Row (spelled : Spelling) : (before : List Word) → List Piece → List LineToken → Type 0 where
  last : {before : List Word} (t : LineToken) → (word t ≡ words.LineEnd) ⊎ (word t ≡ words.Colon) → Row spelled before (piece t ∷ []) (t ∷ [])
  a_token : {before : List Word} {row : List Piece} {ts : List LineToken} (t : LineToken) → (word t ≡ words.LineEnd → ⊥)
      → Row spelled (word t ∷ before) row ts → Row spelled before (piece t ∷ row) (t ∷ ts)
  a_label : {before : List Word} {row : List Piece} {ts : List LineToken} {n : List ℕ} (t : LineToken) → name_in (lexeme t) ≡ Some n
      → Row spelled (words.Name ∷ before) row ts → Row spelled before (label n t.place ∷ row) (t ∷ ts)
  an_expression : {before : List Word} {row : List Piece} {ts : List LineToken} {e : Tree} (first : LineToken) (others : List LineToken) (t : LineToken)
      → IsExpression (spelled before (word t)) e (terms (first ∷ others)) → Row spelled before row (t ∷ ts)
      → Row spelled before (tree e first.place ∷ row) ((first ∷ others) ++ t ∷ ts)

abbrev pub in_data : Spelling
in_data before w = if list_any is_size before && not (is_open before) then in_data_item else in_dat

-- these tokens are a line, and this is what it says
abbrev pub IsLine : {X : Type 0} → Spelling → (List Piece → Option X) → X → List LineToken → Type 0
IsLine spelled value x ts = (row : List Piece) × Row spelled [] row ts × (value row ≡ Some x)

-- a line of DAT, in which what isn't a word of DAT itself is that of an instruction, and a string of one character is an expression
abbrev pub is_known : Part → Bool
is_known (other w p) = is_some (entry_of mnemonics (spelling w))
is_known (text t p) = nat_lt 1 (length t)
is_known x = true

abbrev pub data_of_row : List Piece → Option (List sources.Line)
data_of_row row = if list_all is_known (map part_of_piece row) then lines_of_row row else None

-- the lines of a block that isn't a method, with all that they declare
pub data Declare {X : Type 0} (spelled : Spelling) (value : List Piece → Option (List X)) : List X → List LineToken → Type 0 where
  no_line : Declare spelled value [] []
  a_blank : {xs : List X} {ts : List LineToken} (t : LineToken) → word t ≡ words.LineEnd → Declare spelled value xs ts
      → Declare spelled value xs (ts ++ t ∷ [])
  a_line : {xs ys : List X} {ts us : List LineToken} → IsLine spelled value ys us → Declare spelled value xs ts → Declare spelled value (xs ++ ys) (ts ++ us)

-- the lines of a method, each with the place of its first token
pub data AreLines : List lines.Line → List LineToken → Type 0 where
  no_line : AreLines [] []
  a_blank : {ls : List lines.Line} {ts : List LineToken} (t : LineToken) → word t ≡ words.LineEnd → AreLines ls ts → AreLines ls (ts ++ t ∷ [])
  a_line : {ls : List lines.Line} {ts us : List LineToken} {k : Kind} (t : LineToken) → IsLine in_text kind_of_row k (t ∷ us) → AreLines ls ts
      → AreLines (ls ++ lines.line t.place k ∷ []) (ts ++ t ∷ us)

-- ---- blocks

-- these tokens are this block
pub data IsBlock : BlockTree → List LineToken → Type 0 where
  con : {xs ys : List Constant} {us vs : List LineToken} (t : LineToken) → IsHead words.Con t → IsLine declared constants_of_row xs us
      → Declare declared constants_of_row ys vs → IsBlock (sources.Con (xs ++ ys)) (t ∷ (us ++ vs))
  var : {xs ys : List Declared} {us vs : List LineToken} (t : LineToken) → IsHead words.Var t → IsLine declared variables_of_row xs us
      → Declare declared variables_of_row ys vs → IsBlock (sources.Var (xs ++ ys)) (t ∷ (us ++ vs))
  obj : {xs ys : List Child} {us vs : List LineToken} (t : LineToken) → IsHead words.Obj t → IsLine declared objects_of_row xs us
      → Declare declared objects_of_row ys vs → IsBlock (sources.Obj (xs ++ ys)) (t ∷ (us ++ vs))
  dat : {xs ys : List sources.Line} {us vs : List LineToken} (t : LineToken) → IsHead words.Dat t → IsLine in_data data_of_row xs us
      → Declare in_data data_of_row ys vs → IsBlock (sources.Dat (xs ++ ys)) (t ∷ (us ++ vs))
  method : {m : MethodTree} {ls : List lines.Line} {ss : Statements} {us vs : List LineToken} (public : Bool) (t : LineToken) → IsHead (method_word public) t
      → IsLine headed (method_of_row public) m us → AreLines ls vs → AreStatements ss ls → IsBlock (sources.Method (with_body m ss)) (t ∷ (us ++ vs))

-- ---- files

-- these tokens are a file with this tree; what stands before the first block's word is a CON, if it declares anything
pub data IsFile : Source → List LineToken → Type 0 where
  first : {xs : List Constant} {ts : List LineToken} → Declare declared constants_of_row xs ts → IsFile (first_block xs) ts
  one_more : {bs : Source} {b : BlockTree} {ts us : List LineToken} → IsFile bs ts → IsBlock b us → IsFile (bs ++ b ∷ []) (ts ++ us)

-- these bytes are cut into tokens, and those are a file with this tree
pub record IsSource (bytes : List ℕ) (s : Source) : Type 0 where
  pub whole : length bytes ≤ longest_file
  pub tokens : List LineToken
  pub cut : AreTokens bytes tokens
  pub is : IsFile s (with_end tokens)
