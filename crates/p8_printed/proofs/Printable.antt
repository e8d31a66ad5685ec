-- What is printed of a tree whose lines are such as are read of a source: lines that can be read back.
use Rattle.std.proofs.Common.{◌≡◌, ℕ, List, [], ◌∷◌, ◌++◌, All, map, Option, Some, None, option_map, Bool, true, false, IsTrue, refl, ap}
use Rattle.std.specs.Prelude.{if◌then◌else◌}
use Rattle.std.specs.List.{AllByRecursion as Each}
use Rattle.std.proofs.lemmas.List.Elements.{All-from_recursion, All-cons, All-nil}
use Rattle.p8_tree.specs.Sources as sources
use Rattle.p8_tree.specs.Sources.{Constant, Declared, Child, MethodTree, BlockTree, Source}
use Rattle.p8_tree.specs.Statements.{Statements}
use Rattle.p8_tree.specs.Forgetting.{constant_anywhere, declared_anywhere, child_anywhere, method_anywhere, line_anywhere}
use Rattle.p8_lexer.specs.declared.word.Word.{Word}
use Rattle.p8_lexer.specs.declared.word.Word.TheVariants as word_case
use Rattle.p8_lexer.specs.Pieces.{Piece}
use Rattle.p8_columns.specs.Lines.{Line}
use Rattle.p8_columns.specs.Blocks.{AreStatements}
use Rattle.p8_columns.proofs.Made.{made}
use Rattle.p8_lines.specs.declared.state.LineState.{LineState}
use Rattle.p8_lines.specs.declared.state.LineState.TheVariants as state
use Rattle.p8_lines.specs.Tokens.{LineToken, word}
use Rattle.p8_lines.specs.Lines.{Leads}
use Rattle.p8_declarations.specs.Constants.{constants_of_row}
use Rattle.p8_declarations.specs.Variables.{variables_of_row}
use Rattle.p8_declarations.specs.Objects.{objects_of_row}
use Rattle.p8_declarations.specs.Methods.{method_of_row}
use Rattle.p8_declarations.specs.Lines.{line_of_row}
use Rattle.p8_tree.specs.Nesting.{leave_loops}
use Rattle.p8_blocks.specs.Files.{lines_of_row, lines_in, with_body}
use Rattle.p8_print.specs.Spelled.{Spelled, reserved, IsReadable, IsReadableLine}
use Rattle.p8_printed.specs.Rereading.{AreSpelled, ReadsBack}
use Rattle.p8_print.specs.DeclarationWords.{words_of_constant, words_of_variable, words_of_child, words_of_head}
use Rattle.p8_print.specs.DataWords.{words_of_line}
use Rattle.p8_print.specs.Layout.{line, spelled_line, lines_of_statements, lines_of_block, lines_of}
use Rattle.p8_printed.proofs.Elements.{each_append, each_weaker, each_map}
use Rattle.p8_printed.proofs.Rebuilt.{kinds_kept}
use Rattle.p8_printed.proofs.MethodLines.{IsLine, read_back}
use Rattle.p8_printed.proofs.Lines.{line_is}

-- an item is read back from the words of a line of its own
pub record ItemReadsBack {X : Type 0} (value : List Piece → Option (List X)) (anywhere : X → X) (q : LineState) (words : List Spelled) (x : X) : Type 0 where
  pub readable : All IsReadable words
  pub read : (ts : List LineToken) (t : LineToken) → AreSpelled words ts → word t ≡ word_case.LineEnd → (row : List Piece) × (y : X) × Leads q (ts ++ t ∷ []) row state.End × (value row ≡ Some (y ∷ [])) × (anywhere y ≡ anywhere x)

pub one_item : {X : Type 0} {value : List Piece → Option (List X)} {q : LineState} {words : List Spelled} (anywhere : X → X) (x : X) → ReadsBack value (map anywhere) q words (x ∷ []) → ItemReadsBack value anywhere q words x
one_item {X} {value} {q} {words} anywhere x h = record { readable = h.readable; read = λ ts t s e. (let r = h.read ts t s e in go ts t r.0 r.1 r.2 r.3 r.4) }
  where
    go : (ts : List LineToken) (t : LineToken) (row : List Piece) (v : List X) → Leads q (ts ++ t ∷ []) row state.End → value row ≡ Some v → map anywhere v ≡ anywhere x ∷ [] → (row : List Piece) × (y : X) × Leads q (ts ++ t ∷ []) row state.End × (value row ≡ Some (y ∷ [])) × (anywhere y ≡ anywhere x)
    go ts t row [] l e f = absurd cc
    go ts t row (y ∷ []) l e f = (row, y, l, e, cc)
    go ts t row (y ∷ z ∷ v) l e f = absurd cc

pub one_line : {q : LineState} {words : List Spelled} (x : sources.Line) → ReadsBack line_of_row (option_map line_anywhere) q words (Some x) → ItemReadsBack lines_of_row line_anywhere q words x
one_line {q} {words} x h = record { readable = h.readable; read = λ ts t s e. (let r = h.read ts t s e in go ts t r.0 r.1 r.2 r.3 r.4) }
  where
    go : (ts : List LineToken) (t : LineToken) (row : List Piece) (v : Option sources.Line) → Leads q (ts ++ t ∷ []) row state.End → line_of_row row ≡ Some v → option_map line_anywhere v ≡ Some (line_anywhere x) → (row : List Piece) × (y : sources.Line) × Leads q (ts ++ t ∷ []) row state.End × (lines_of_row row ≡ Some (y ∷ [])) × (line_anywhere y ≡ line_anywhere x)
    go ts t row None l e f = absurd cc
    go ts t row (Some y) l e f = (row, y, l, ap (option_map lines_in) e, cc)

abbrev pub ConstantReadsBack : Constant → Type 0
ConstantReadsBack x = ItemReadsBack constants_of_row constant_anywhere state.ConItem (words_of_constant x) x

abbrev pub VariableReadsBack : Declared → Type 0
VariableReadsBack x = ItemReadsBack variables_of_row declared_anywhere state.VarLine (words_of_variable x) x

abbrev pub ObjectReadsBack : Child → Type 0
ObjectReadsBack x = ItemReadsBack objects_of_row child_anywhere state.ObjLine (words_of_child x) x

abbrev pub DataReadsBack : sources.Line → Type 0
DataReadsBack x = ItemReadsBack lines_of_row line_anywhere state.DatLine (words_of_line x) x

-- what is printed of a block is read back
pub data IsPrintable : BlockTree → Type 0 where
  constants : {xs : List Constant} → Each ConstantReadsBack xs → IsPrintable (sources.Con xs)
  variables : {xs : List Declared} → Each VariableReadsBack xs → IsPrintable (sources.Var xs)
  objects : {xs : List Child} → Each ObjectReadsBack xs → IsPrintable (sources.Obj xs)
  assembly : {xs : List sources.Line} → Each DataReadsBack xs → IsPrintable (sources.Dat xs)
  a_method : {m : MethodTree} {ss : Statements} (ls : List Line) → ReadsBack (method_of_row m.public) method_anywhere state.MethodName (words_of_head m) m → AreStatements ss ls → Each (λ l. IsLine l.kind) ls → IsTrue (leave_loops false ss) → IsPrintable (sources.Method (with_body m ss))

-- the lines are readable

word_line : (w : Word) (words : List Spelled) → IsReadable (reserved w) → All IsReadable words → IsReadableLine (line 0 (reserved w ∷ words))
word_line w words r h = All-cons IsReadable (reserved w) words r h

item_lines : {X : Type 0} (words : X → List Spelled) (P : X → Type 0) → ((x : X) → P x → All IsReadable (words x)) → (xs : List X) → Each P xs → Each IsReadableLine (map (λ x. line 2 (words x)) xs)
item_lines words P f [] h = tt
item_lines words P f (x ∷ xs) h = (f x h.0, item_lines words P f xs h.1)

-- the kinds of the lines that are printed for statements
pub printed_kinds : (n : ℕ) (ss : Statements) (ls : List Line) → AreStatements ss ls → Each (λ l. IsLine l.kind) ls → Each (λ i. IsLine i.kind) (lines_of_statements n ss)
printed_kinds n ss ls are h = kinds_kept IsLine (made are.1) (each_weaker (λ l. IsLine l.kind) _ (λ l r. line_is l.kind r) ls h) h n

method_readable : (public : Bool) → IsReadable (reserved (if public then word_case.Pub else word_case.Pri))
method_readable true = refl
method_readable false = refl

block_readable : {b : BlockTree} → IsPrintable b → Each IsReadableLine (lines_of_block b)
block_readable (constants {xs = xs} h) = (word_line word_case.Con [] refl (All-nil IsReadable), item_lines words_of_constant ConstantReadsBack (λ x r. r.readable) xs h)
block_readable (variables {xs = xs} h) = (word_line word_case.Var [] refl (All-nil IsReadable), item_lines words_of_variable VariableReadsBack (λ x r. r.readable) xs h)
block_readable (objects {xs = xs} h) = (word_line word_case.Obj [] refl (All-nil IsReadable), item_lines words_of_child ObjectReadsBack (λ x r. r.readable) xs h)
block_readable (assembly {xs = xs} h) = (word_line word_case.Dat [] refl (All-nil IsReadable), item_lines words_of_line DataReadsBack (λ x r. r.readable) xs h)
block_readable (a_method {m = m} {ss = ss} ls r are h loops) = (
  word_line _ (words_of_head m) (method_readable m.public) r.readable,
  each_map IsReadableLine spelled_line (lines_of_statements 2 ss) (each_weaker (λ i. IsLine i.kind) (λ i. IsReadableLine (spelled_line i)) (λ i k. (read_back i.kind k).readable) (lines_of_statements 2 ss) (printed_kinds 2 ss ls are h)),
)

lines_readable : (s : Source) → Each IsPrintable s → Each IsReadableLine (lines_of s)
lines_readable [] h = tt
lines_readable (b ∷ s) h = each_append IsReadableLine (lines_of_block b) (lines_of s) (block_readable h.0) (lines_readable s h.1)

pub source_readable : (s : Source) → Each IsPrintable s → All IsReadableLine (lines_of s)
source_readable s h = All-from_recursion IsReadableLine (lines_of s) (lines_readable s h)
