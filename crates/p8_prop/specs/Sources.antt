-- Which bytes are a source, with which tree, and which files a project has (Propeller Manual v1.2, "Spin Language Reference": the block designators, and
-- "OBJ"; what it leaves open is this project's profile). How much of anything there may be (how high an expression, how deep blocks, how many objects
-- and files), whether NEXT and QUIT stand in a loop, and which operands and effects an instruction has, is no part of it: what is run was accepted.
--
-- A file is blocks, one after the other. A block is its word in column 1 with what stands after it, and further lines. The lines of a method are its
-- statements by their columns. Ends of lines may stand between lines.
use Rattle.std.specs.Prelude.{◌≡◌, ◌⊎◌, ℕ, ◌≤◌, Bool, true, false, ◌&&◌, not, if◌then◌else◌, List, [], ◌∷◌, ◌++◌, length, map, Option, Some}
use Rattle.std.specs.List.{list_any}
use Rattle.p8_tree.specs.Expressions.{Tree}
use Rattle.p8_tree.specs.Sources as sources
use Rattle.p8_tree.specs.Sources.{Constant, Declared, Child, MethodTree, BlockTree, Source}
use Rattle.p8_tree.specs.Projects.{NamedSource}
use Rattle.p8_tree.specs.Statements.{Statements}
use Rattle.p8_lexer.specs.declared.word.Word.{Word}
use Rattle.p8_lexer.specs.declared.word.Word.TheVariants as words
use Rattle.p8_lexer.specs.Lexing.{longest_file}
use Rattle.p8_lexer.specs.Pieces.{Piece, label, tree}
use Rattle.p8_grammar.specs.Lexemes.{Setting, in_method, in_declaration, in_dat, in_data_item, in_action, name_in}
use Rattle.p8_grammar.specs.Grammar.{IsExpression}
use Rattle.p8_columns.specs.Lines as lines
use Rattle.p8_columns.specs.Lines.{Kind}
use Rattle.p8_columns.specs.Blocks.{AreStatements}
use Rattle.p8_lines.specs.Tokens.{LineToken, with_end}
use Rattle.p8_blocks.specs.Files.{method_word, first_block}
use Rattle.p8_io.specs.Shelves.{Files}
use Rattle.p8_objects.specs.Projects.{IsIn}
use Rattle.p8_objects.specs.Outcomes.{HasBytes, named}
use Rattle.p8_names.specs.Mentions.{mentions}
use Rattle.p8_prop.specs.Cutting.{AreTokens}
use Rattle.p8_prop.specs.Tokens.{is_size, word, lexeme, piece, terms, IsHead}
use Rattle.p8_prop.specs.DeclaredLines.{constants_of, variables_of, objects_of, method_of}
use Rattle.p8_prop.specs.DataLines.{lines_of}
use Rattle.p8_prop.specs.StatementLines.{kind_of}

-- ---- lines

-- how an expression is spelled in a line, by the words before it, the last one first, and the word behind it
abbrev pub Spelling : Type 0
Spelling = List Word → Word → Setting

-- These tokens are a line with these pieces, behind those with these words: words, names and whole expressions, up to the end of the line or to a colon.
-- A label is a name or a reserved word, told by its characters.
pub data Row (spelled : Spelling) : (before : List Word) → List Piece → List LineToken → Type 0 where
  last : {before : List Word} (t : LineToken) → (word t ≡ words.LineEnd) ⊎ (word t ≡ words.Colon) → Row spelled before (piece t ∷ []) (t ∷ [])
  a_token : {before : List Word} {row : List Piece} {ts : List LineToken} (t : LineToken) → (word t ≡ words.LineEnd → ⊥)
      → Row spelled (word t ∷ before) row ts → Row spelled before (piece t ∷ row) (t ∷ ts)
  a_label : {before : List Word} {row : List Piece} {ts : List LineToken} {n : List ℕ} (t : LineToken) → name_in (lexeme t) ≡ Some n
      → Row spelled (words.Name ∷ before) row ts → Row spelled before (label n t.place ∷ row) (t ∷ ts)
  an_expression : {before : List Word} {row : List Piece} {ts : List LineToken} {e : Tree} (first : LineToken) (others : List LineToken) (t : LineToken)
      → IsExpression (spelled before (word t)) e (terms (first ∷ others)) → Row spelled before row (t ∷ ts)
      → Row spelled before (tree e first.place ∷ row) ((first ∷ others) ++ t ∷ ts)

-- in CON, VAR and OBJ, and in the head of a method
abbrev pub declared : Spelling
declared before w = in_declaration

abbrev pub headed : Spelling
headed before w = in_method

-- in a method, where an expression alone is a statement and no value
abbrev pub in_text : Spelling
in_text [] words.LineEnd = in_action
in_text before w = in_method

-- in DAT, where a datum has no brackets of its own: what stands in some behind it is its count
abbrev pub is_open : List Word → Bool
is_open (words.LeftBracket ∷ before) = true
is_open before = false

abbrev pub in_data : Spelling
in_data before w = if list_any is_size before && not (is_open before) then in_data_item else in_dat

-- these tokens are a line, and this is what it says
abbrev pub IsLine : {X : Type 0} → Spelling → (List Piece → Option X) → X → List LineToken → Type 0
IsLine spelled value x ts = (row : List Piece) × Row spelled [] row ts × (value row ≡ Some x)

-- the lines of a block that isn't a method, with all that they declare
pub data Declare {X : Type 0} (spelled : Spelling) (value : List Piece → Option (List X)) : List X → List LineToken → Type 0 where
  no_line : Declare spelled value [] []
  a_blank : {xs : List X} {ts : List LineToken} (t : LineToken) → word t ≡ words.LineEnd → Declare spelled value xs ts
      → Declare spelled value xs (ts ++ t ∷ [])
  a_line : {xs ys : List X} {ts us : List LineToken} → IsLine spelled value ys us → Declare spelled value xs ts → Declare spelled value (xs ++ ys) (ts ++ us)

-- the lines of a method, each with the place of its first token
pub data AreLines : List lines.Line → List LineToken → Type 0 where
  no_line : AreLines [] []
  a_blank : {ls : List lines.Line} {ts : List LineToken} (t : LineToken) → word t ≡ words.LineEnd → AreLines ls ts → AreLines ls (ts ++ t ∷ [])
  a_line : {ls : List lines.Line} {ts us : List LineToken} {k : Kind} (t : LineToken) → IsLine in_text kind_of k (t ∷ us) → AreLines ls ts
      → AreLines (ls ++ lines.line t.place k ∷ []) (ts ++ t ∷ us)

-- ---- blocks

-- a method with this body
abbrev pub with_body : MethodTree → Statements → MethodTree
with_body m ss = record m { body = ss }

-- these tokens are this block
pub data IsBlock : BlockTree → List LineToken → Type 0 where
  con : {xs ys : List Constant} {us vs : List LineToken} (t : LineToken) → IsHead words.Con t → IsLine declared constants_of xs us
      → Declare declared constants_of ys vs → IsBlock (sources.Con (xs ++ ys)) (t ∷ (us ++ vs))
  var : {xs ys : List Declared} {us vs : List LineToken} (t : LineToken) → IsHead words.Var t → IsLine declared variables_of xs us
      → Declare declared variables_of ys vs → IsBlock (sources.Var (xs ++ ys)) (t ∷ (us ++ vs))
  obj : {xs ys : List Child} {us vs : List LineToken} (t : LineToken) → IsHead words.Obj t → IsLine declared objects_of xs us
      → Declare declared objects_of ys vs → IsBlock (sources.Obj (xs ++ ys)) (t ∷ (us ++ vs))
  dat : {xs ys : List sources.Line} {us vs : List LineToken} (t : LineToken) → IsHead words.Dat t → IsLine in_data lines_of xs us
      → Declare in_data lines_of ys vs → IsBlock (sources.Dat (xs ++ ys)) (t ∷ (us ++ vs))
  method : {m : MethodTree} {ls : List lines.Line} {ss : Statements} {us vs : List LineToken} (public : Bool) (t : LineToken) → IsHead (method_word public) t
      → IsLine headed (method_of public) m us → AreLines ls vs → AreStatements ss ls → IsBlock (sources.Method (with_body m ss)) (t ∷ (us ++ vs))

-- ---- files

-- these tokens are a file with this tree; what stands before the first block's word is a CON, if it declares anything
pub data IsFile : Source → List LineToken → Type 0 where
  first : {xs : List Constant} {ts : List LineToken} → Declare declared constants_of xs ts → IsFile (first_block xs) ts
  one_more : {bs : Source} {b : BlockTree} {ts us : List LineToken} → IsFile bs ts → IsBlock b us → IsFile (bs ++ b ∷ []) (ts ++ us)

-- these bytes are cut into tokens, and those are a file with this tree
pub record IsSource (bytes : List ℕ) (s : Source) : Type 0 where
  pub whole : length bytes ≤ longest_file
  pub tokens : List LineToken
  pub cut : AreTokens bytes tokens
  pub is : IsFile s (with_end tokens)

-- ---- projects

-- From these files, names that are mentioned and not looked at yet lead to all files of a project: a new file comes behind those that are there, and its
-- mentions are looked at before what is left.
pub data GrowsTo (shelf : Files) : (left : List (List ℕ)) → (files all : List NamedSource) → Type 0 where
  whole : {files : List NamedSource} → GrowsTo shelf [] files files
  old_file : {name : List ℕ} {left : List (List ℕ)} {files all : List NamedSource} → IsIn files name → GrowsTo shelf left files all
      → GrowsTo shelf (name ∷ left) files all
  new_file : {name : List ℕ} {left : List (List ℕ)} {files all : List NamedSource} (bytes : List ℕ) (s : Source) → ¬ IsIn files name
      → HasBytes shelf name bytes → IsSource bytes s → GrowsTo shelf (map (λ x. x.file) (mentions s) ++ left) (files ++ named name s ∷ []) all
      → GrowsTo shelf (name ∷ left) files all

-- these are the files of the project of a top file
abbrev pub IsProjectOf : Files → (top : List ℕ) → List NamedSource → Type 0
IsProjectOf shelf top files = GrowsTo shelf (top ∷ []) [] files
