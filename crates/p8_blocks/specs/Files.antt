-- Which tokens are a file, and with which tree (Propeller Manual v1.2, "Spin Language Reference": the block designators;
-- what it leaves open is this project's profile).
--
-- A file is blocks, one after the other. A block is its word in column 1 with what stands after it, and further lines.
-- The lines of a method are its statements by their columns. Ends of lines may stand between lines.
use Rattle.std.specs.Prelude.{◌≡◌, ℕ, Bool, true, false, ◌&&◌, ◌||◌, IsTrue, List, [], ◌∷◌, ◌++◌, Option, Some, None, option_map}
use Rattle.p8_tree.specs.declared.places.Place.{Place}
use Rattle.p8_tree.specs.Sources as sources
use Rattle.p8_tree.specs.Sources.{Constant, Declared, Child, MethodTree, BlockTree, Source}
use Rattle.p8_tree.specs.Statements.{Statements}
use Rattle.p8_lexer.specs.declared.word.Word.{Word}
use Rattle.p8_lexer.specs.declared.word.Word.TheVariants as word_case
use Rattle.p8_grammar.specs.Lexemes.{Setting}
use Rattle.p8_columns.specs.Lines as lines
use Rattle.p8_columns.specs.Lines.{Kind}
use Rattle.p8_columns.specs.Blocks.{AreStatements}
use Rattle.p8_lexer.specs.Pieces.{Piece}
use Rattle.p8_lines.specs.declared.state.LineState.{LineState}
use Rattle.p8_lines.specs.declared.state.LineState.TheVariants as state
use Rattle.p8_lines.specs.Tokens.{LineToken, word}
use Rattle.p8_lines.specs.Lines.{Row, Leads, Reads, refused, number_of}
use Rattle.p8_tree.specs.declared.refusal.Refusal.TheVariants.{BadIndent, TooNested, LoopWord}
use Rattle.p8_tree.specs.Refusals.{refusal_number}
use Rattle.p8_declarations.specs.Constants.{constants_of_row}
use Rattle.p8_declarations.specs.Variables.{variables_of_row}
use Rattle.p8_declarations.specs.Objects.{objects_of_row}
use Rattle.p8_declarations.specs.Methods.{method_of_row}
use Rattle.p8_declarations.specs.Lines.{line_of_row}
use Rattle.p8_statements.specs.Statements.{kind_of_row}
use Rattle.p8_blocks.specs.Values.{begins_line}
use Rattle.p8_tree.specs.Nesting.{leave_loops}
use Rattle.p8_blocks.specs.Trees.{IsShallow}

-- whether expressions may be of any height, or of no height that is refused
pub data Heights : Type 0 where
  any_height : Heights
  within_limits : Heights

-- these tokens are a line from this state on, with these pieces
abbrev pub IsLine : Heights → LineState → List Piece → List LineToken → Type 0
IsLine any_height q row ts = Row q row ts
IsLine within_limits q row ts = Leads q ts row state.End

-- a line of DAT, if there is one
abbrev pub lines_in : Option sources.Line → List sources.Line
lines_in None = []
lines_in (Some x) = x ∷ []

-- the same of a row, if it is such a line
abbrev pub lines_of_row : List Piece → Option (List sources.Line)
lines_of_row row = option_map lines_in (line_of_row row)

-- The lines of a block that isn't a method, each read from the same state on, with all that they declare.
pub data Declare (h : Heights) {X : Type 0} (value : List Piece → Option (List X)) (q : LineState) : List X → List LineToken → Type 0 where
  no_line : Declare h value q [] []
  a_blank : {xs : List X} {ts : List LineToken} (t : LineToken) → word t ≡ word_case.LineEnd → Declare h value q xs ts → Declare h value q xs (ts ++ t ∷ [])
  a_line : {xs ys : List X} {ts : List LineToken} (us : List LineToken) (row : List Piece) → IsLine h q row us → value row ≡ Some ys →
      Declare h value q xs ts → Declare h value q (xs ++ ys) (ts ++ us)

-- after the colon of a CASE's item its line of the text goes on
abbrev pub is_item : Kind → Bool
is_item (lines.Item xs) = true
is_item lines.Other = true
is_item k = false

-- a line that goes on with a chain, or ends a loop, is a line of the text
abbrev pub begins_text : LineState → Bool
begins_text state.ChainLine = true
begins_text state.LoopEndLine = true
begins_text q = false

-- The lines of a method, each with the place of its first token, and whether a line of the text is begun: after the
-- colon of a CASE's item a line may begin on the same line of the text.
pub data AreLines (h : Heights) : List lines.Line → Bool → List LineToken → Type 0 where
  no_line : AreLines h [] false []
  a_blank : {ls : List lines.Line} {b : Bool} {ts : List LineToken} (t : LineToken) → word t ≡ word_case.LineEnd → AreLines h ls b ts →
      AreLines h ls false (ts ++ t ∷ [])
  a_line : {ls : List lines.Line} {b : Bool} {ts : List LineToken} {k : Kind} (q : LineState) (row : List Piece) (t : LineToken) (us : List LineToken) →
      IsTrue (begins_line q) → begins_text q && b ≡ false → IsLine h q row (t ∷ us) → kind_of_row row ≡ Some k → AreLines h ls b ts →
      AreLines h (ls ++ lines.line t.place k ∷ []) (is_item k) (ts ++ t ∷ us)

-- a block's word, in column 1
pub record IsHead (w : Word) (t : LineToken) : Type 0 where
  pub is : word t ≡ w
  pub first : t.place.column ≡ 1

abbrev pub method_word : Bool → Word
method_word true = word_case.Pub
method_word false = word_case.Pri

-- a method with this body
abbrev pub with_body : MethodTree → Statements → MethodTree
with_body m ss = record m { body = ss }

-- these tokens are this block
pub data IsBlock (h : Heights) : BlockTree → List LineToken → Type 0 where
  con : {xs ys : List Constant} {vs : List LineToken} (t : LineToken) (us : List LineToken) (row : List Piece) → IsHead word_case.Con t →
      IsLine h state.ConHead row us → constants_of_row row ≡ Some xs → Declare h constants_of_row state.ConItem ys vs →
      IsBlock h (sources.Con (xs ++ ys)) (t ∷ (us ++ vs))
  var : {xs ys : List Declared} {vs : List LineToken} (t : LineToken) (us : List LineToken) (row : List Piece) → IsHead word_case.Var t →
      IsLine h state.VarHead row us → variables_of_row row ≡ Some xs → Declare h variables_of_row state.VarLine ys vs →
      IsBlock h (sources.Var (xs ++ ys)) (t ∷ (us ++ vs))
  obj : {xs ys : List Child} {vs : List LineToken} (t : LineToken) (us : List LineToken) (row : List Piece) → IsHead word_case.Obj t →
      IsLine h state.ObjHead row us → objects_of_row row ≡ Some xs → Declare h objects_of_row state.ObjLine ys vs →
      IsBlock h (sources.Obj (xs ++ ys)) (t ∷ (us ++ vs))
  dat : {xs ys : List sources.Line} {vs : List LineToken} (t : LineToken) (us : List LineToken) (row : List Piece) → IsHead word_case.Dat t →
      IsLine h state.DatHead row us → lines_of_row row ≡ Some xs → Declare h lines_of_row state.DatLine ys vs →
      IsBlock h (sources.Dat (xs ++ ys)) (t ∷ (us ++ vs))
  method : {m : MethodTree} {ls : List lines.Line} {b : Bool} {ss : Statements} {vs : List LineToken} (public : Bool) (t : LineToken)
      (us : List LineToken) (row : List Piece) → IsHead (method_word public) t → IsLine h state.MethodName row us →
      method_of_row public row ≡ Some m → AreLines h ls b vs → AreStatements ss ls → IsTrue (leave_loops false ss) →
      IsBlock h (sources.Method (with_body m ss)) (t ∷ (us ++ vs))

-- what stands before the first block's word is a CON, if it declares anything
abbrev pub first_block : List Constant → Source
first_block [] = []
first_block xs = sources.Con xs ∷ []

-- these tokens are a file with this tree
pub data IsFile (h : Heights) : Source → List LineToken → Type 0 where
  first : {xs : List Constant} {ts : List LineToken} → Declare h constants_of_row state.ConItem xs ts → IsFile h (first_block xs) ts
  one_more : {bs : Source} {b : BlockTree} {ts us : List LineToken} → IsFile h bs ts → IsBlock h b us → IsFile h (bs ++ b ∷ []) (ts ++ us)

-- these tokens are a file with this tree, no expression is too high, and no line opens a block too many
abbrev pub IsFileWithinLimits : Source → List LineToken → Type 0
IsFileWithinLimits s ts = IsFile within_limits s ts × IsShallow s

-- some file begins with these tokens
abbrev pub Begins : List LineToken → Type 0
Begins ts = (rest : List LineToken) × (s : Source) × IsFile any_height s (ts ++ rest)

-- the ELSE kinds, the words that end a loop, and those that leave one
abbrev pub is_chain_word : Word → Bool
is_chain_word word_case.Else = true
is_chain_word word_case.Elseif = true
is_chain_word word_case.Elseifnot = true
is_chain_word _ = false

abbrev pub is_loop_end_word : Word → Bool
is_loop_end_word word_case.While = true
is_loop_end_word word_case.Until = true
is_loop_end_word _ = false

abbrev pub is_loop_word : Word → Bool
is_loop_word word_case.Next = true
is_loop_word word_case.Quit = true
is_loop_word _ = false

-- The number of the refusal of a token that can't stand where it does: 7 for an ELSE kind, WHILE or UNTIL with no opener,
-- 11 for NEXT and QUIT outside REPEAT, 9 for floating point, 10 for what the machine doesn't carry out, 6 for all others.
pub data NumberOf (w : Word) : ℕ → Type 0 where
  no_opener : IsTrue (is_chain_word w || is_loop_end_word w) → NumberOf w (refusal_number BadIndent)
  outside_loop : IsTrue (is_loop_word w) → NumberOf w (refusal_number LoopWord)
  by_word : (s : Setting) → NumberOf w (number_of s w)

-- this refusal stands at the first token up to which no file begins so
pub record StopsAt (ts : List LineToken) (n : ℕ) (p : Place) : Type 0 where
  pub before : List LineToken
  pub token : LineToken
  pub after : List LineToken
  pub split : ts ≡ before ++ token ∷ after
  pub place : token.place ≡ p
  pub number : NumberOf (word token) n
  pub begins : Begins before
  pub stops : ¬ Begins (before ++ token ∷ [])

-- After these tokens the lines that begin with this one are those that are read from this state.
pub record LinesFrom (ts : List LineToken) (t : LineToken) (q : LineState) : Type 0 where
  pub may : (row : List Piece) (us : List LineToken) → Row q row (t ∷ us) → (s : Source) × IsFile any_height s (ts ++ t ∷ us)
  pub must : (rest : List LineToken) (s : Source) → IsFile any_height s (ts ++ t ∷ rest) →
      (row : List Piece) × (us : List LineToken) × (vs : List LineToken) × Row q row (t ∷ us) × (us ++ vs ≡ rest)

-- some of these tokens, from the first one, begin a file, and each file that begins so goes past the limits
pub record PassesLimits (ts : List LineToken) : Type 0 where
  pub front : List LineToken
  pub rest : List LineToken
  pub split : ts ≡ front ++ rest
  pub begins : Begins front
  pub passes : (more : List LineToken) (s : Source) → ¬ IsFileWithinLimits s (front ++ more)

-- these tokens are none, or end with the end of a line
pub data EndsLine : List LineToken → Type 0 where
  nothing : EndsLine []
  line_end : (ts : List LineToken) (t : LineToken) → word t ≡ word_case.LineEnd → EndsLine (ts ++ t ∷ [])

-- After these tokens the line of the text on which this one stands begins at this place: there, or where the CASE's item
-- begins after whose colon it stands.
pub data LineBegins : List LineToken → LineToken → Place → Type 0 where
  here : {ts : List LineToken} {t : LineToken} → EndsLine ts → LineBegins ts t t.place
  behind_item : {ts : List LineToken} {t u : LineToken} {p : Place} {row : List Piece} (us : List LineToken) → LinesFrom ts u state.CaseItem →
      Row state.CaseItem row (u ∷ us) → LineBegins ts u p → LineBegins (ts ++ u ∷ us) t p

-- what goes past the limits begins at this place
pub data PassesAt (ts : List LineToken) (p : Place) : Type 0 where
  -- an expression that is too high
  by_height : (before : List LineToken) (t : LineToken) (us : List LineToken) (q : LineState) → ts ≡ before ++ t ∷ us → LinesFrom before t q →
      Reads q (t ∷ us) (refused (refusal_number TooNested) p) → PassesAt ts p
  -- the line of the text with the token that opens a block too many
  by_depth : (before : List LineToken) (t : LineToken) (us : List LineToken) → ts ≡ before ++ t ∷ us → Begins (before ++ t ∷ []) →
      ((rest : List LineToken) (s : Source) → IsFile any_height s (before ++ t ∷ rest) → ¬ IsShallow s) → LineBegins before t p → PassesAt ts p
