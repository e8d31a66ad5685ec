-- Which refusal the tokens of a file have, told by the files that begin so (this project's profile; the numbers are those
-- of `Refusal`).
--
-- Tokens are refused at the first of them with which they begin no file within the limits. Where they begin a file of any
-- height and depth with it, they go past the limits: that is 8. Where they begin none, the token can't stand there.
use Rattle.std.specs.Prelude.{◌≡◌, ◌≢◌, ℕ, Bool, true, false, ◌&&◌, not, ◌==◌, if◌then◌else◌, IsTrue, List, [], ◌∷◌, ◌++◌, Option, Some, None, unwrap_or}
use Rattle.std.specs.List.{list_any}
use Rattle.p8_tree.specs.declared.places.Place.{Place}
use Rattle.p8_tree.specs.Sources as sources
use Rattle.p8_tree.specs.Sources.{MethodTree, BlockTree, Source}
use Rattle.p8_tree.specs.Statements.{Statements}
use Rattle.p8_tree.specs.Nesting.{leave_loops}
use Rattle.p8_lexer.specs.declared.word.Word.{Word}
use Rattle.p8_lexer.specs.declared.word.Word.TheVariants as word_case
use Rattle.p8_tree.specs.declared.refusal.Refusal.TheVariants.{BadIndent, TooNested, LoopWord}
use Rattle.p8_tree.specs.Refusals.{refusal_number}
use Rattle.p8_grammar.specs.Lexemes.{Setting, in_method, in_declaration, in_dat, is_dat}
use Rattle.p8_columns.specs.declared.room.Room.TheVariants as room
use Rattle.p8_columns.specs.declared.room.Chain.TheVariants as chain
use Rattle.p8_columns.specs.Lines as lines
use Rattle.p8_columns.specs.Lines.{is_repeat, is_plain_repeat}
use Rattle.p8_columns.specs.Columns.{open_for, innermost, last_up_to, IsAt, HasRoom, HasChain}
use Rattle.p8_columns.specs.Blocks.{AreStatements}
use Rattle.p8_lexer.specs.Pieces.{Piece}
use Rattle.p8_lines.specs.declared.state.LineState.{LineState}
use Rattle.p8_lines.specs.declared.state.LineState.TheVariants as state
use Rattle.p8_lines.specs.Tokens.{LineToken, word}
use Rattle.p8_lines.specs.Lines.{Reads, refused, number_of}
use Rattle.p8_declarations.specs.Methods.{method_of_row}
use Rattle.p8_blocks.specs.Files.{any_height, IsLine, AreLines, IsHead, method_word, IsFile, IsFileWithinLimits, Begins, is_chain_word}
use Rattle.p8_blocks.specs.Files.{is_loop_end_word, is_loop_word}
use Rattle.p8_blocks.specs.Reading.{IsHead as BeginsBlock, is_block_word, head_state, Enters, from, IsTooDeep}

-- some file within the limits begins with these tokens
abbrev pub BeginsWithinLimits : List LineToken → Type 0
BeginsWithinLimits ts = (rest : List LineToken) × (s : Source) × IsFileWithinLimits s (ts ++ rest)

-- Where a token stands: in a method after PUB and PRI in column 1, in DAT after that word, and else in a declaration. In
-- DAT a word behind a colon is a local label's.

abbrev pub block_setting : Word → Setting
block_setting word_case.Pub = in_method
block_setting word_case.Pri = in_method
block_setting word_case.Dat = in_dat
block_setting w = in_declaration

abbrev pub is_colon : Word → Bool
is_colon word_case.Colon = true
is_colon w = false

abbrev pub setting_with : Setting → (behind_colon : Bool) → LineToken → Setting
setting_with s behind t = if is_block_word (word t) && ((t.place.column == 1) && not (is_dat s && behind)) then block_setting (word t) else s

abbrev pub setting_from : Setting → (behind_colon : Bool) → List LineToken → Setting
setting_from s behind [] = s
setting_from s behind (t ∷ ts) = setting_from (setting_with s behind t) (is_colon (word t)) ts

abbrev pub setting_behind : List LineToken → Setting
setting_behind ts = setting_from in_declaration false ts

-- These tokens are a file whose last block is a method, and these are its lines; whether a line of the text is begun is
-- said as in `AreLines`.
pub data EndsInMethod : List LineToken → List lines.Line → Bool → Type 0 where
  method : {s : Source} {m : MethodTree} {ls : List lines.Line} {b : Bool} {ss : Statements} {ts vs : List LineToken} (public : Bool) (t : LineToken)
      (us : List LineToken) (row : List Piece) → IsFile any_height s ts → IsHead (method_word public) t → IsLine any_height state.MethodName row us →
      method_of_row public row ≡ Some m → AreLines any_height ls b vs → AreStatements ss ls → IsTrue (leave_loops false ss) →
      EndsInMethod (ts ++ t ∷ (us ++ vs)) ls b

-- After these lines an ELSE kind has no chain at its column, begun or ended, or WHILE or UNTIL no plain REPEAT.
pub data HasNoOpener (ls : List lines.Line) (t : LineToken) : Type 0 where
  chain_missing : IsTrue (is_chain_word (word t)) → HasChain chain.Missing t.place.column (last_up_to t.place.column ls) → HasNoOpener ls t
  loop_missing : IsTrue (is_loop_end_word (word t)) → ¬ IsAt is_plain_repeat t.place.column (last_up_to t.place.column ls) → HasNoOpener ls t

-- After these lines NEXT or QUIT stands where a statement may, and no REPEAT is open there.
pub record IsOutsideLoop (ls : List lines.Line) (t : LineToken) : Type 0 where
  pub leaves : IsTrue (is_loop_word (word t))
  pub room : HasRoom room.Statement (innermost t.place.column ls)
  pub outside : list_any (λ b. is_repeat b.opener.kind) (open_for t.place.column ls) ≡ false

-- where a line of the text begins in a method
abbrev pub LacksOpener : List LineToken → LineToken → Type 0
LacksOpener before t = (ls : List lines.Line) × EndsInMethod before ls false × HasNoOpener ls t

-- where a line begins in a method
abbrev pub LacksLoop : List LineToken → LineToken → Type 0
LacksLoop before t = (ls : List lines.Line) × (b : Bool) × EndsInMethod before ls b × IsOutsideLoop ls t

-- The number of the refusal of a token that can't stand after these: 7 and 11 where a line begins with it that lacks its
-- opener or its loop, else the number of its word, which is 9, 10 or 6.
pub data NumberAt (before : List LineToken) (t : LineToken) : ℕ → Type 0 where
  no_opener : LacksOpener before t → NumberAt before t (refusal_number BadIndent)
  no_loop : LacksLoop before t → NumberAt before t (refusal_number LoopWord)
  by_word : ¬ LacksOpener before t → ¬ LacksLoop before t → NumberAt before t (number_of (setting_behind before) (word t))

-- Where the line of the text begins on which a token stands: at the first token after the last end of a line.

abbrev pub is_line_end : Word → Bool
is_line_end word_case.LineEnd = true
is_line_end w = false

abbrev pub begun_with : Option Place → LineToken → Option Place
begun_with o t = if is_line_end (word t) then None else Some (unwrap_or o t.place)

abbrev pub begun_from : Option Place → List LineToken → Option Place
begun_from o [] = o
begun_from o (t ∷ ts) = begun_from (begun_with o t) ts

abbrev pub line_begin : List LineToken → LineToken → Place
line_begin before t = unwrap_or (begun_from None before) t.place

-- what a line of the last block is read from, unless that is a method

abbrev pub block_state : BlockTree → Option LineState
block_state (sources.Con xs) = Some state.ConItem
block_state (sources.Var xs) = Some state.VarLine
block_state (sources.Obj xs) = Some state.ObjLine
block_state (sources.Dat xs) = Some state.DatLine
block_state (sources.Method m) = None

abbrev pub last_state : Source → Option LineState
last_state [] = Some state.ConItem
last_state (b ∷ []) = block_state b
last_state (b ∷ c ∷ bs) = last_state (c ∷ bs)

-- After these tokens a line begins with this one, or what stands after a block's word, and is read from this state.
pub data BeginsLine : List LineToken → LineToken → LineState → Type 0 where
  behind_word : {s : Source} {ts : List LineToken} {t : LineToken} (u : LineToken) → IsFile any_height s ts → BeginsBlock u →
      BeginsLine (ts ++ u ∷ []) t (head_state (word u))
  declaration : {s : Source} {ts : List LineToken} {t : LineToken} {q : LineState} → IsFile any_height s ts → last_state s ≡ Some q →
      word t ≢ word_case.LineEnd → ¬ BeginsBlock t → BeginsLine ts t q
  method_line : {ls : List lines.Line} {b : Bool} {ts : List LineToken} {t : LineToken} {q : LineState} → EndsInMethod ts ls b →
      word t ≢ word_case.LineEnd → ¬ BeginsBlock t → Enters ls b t (from q) → BeginsLine ts t q

-- The line of a method that begins with this token opens a block too many.
pub record OpensTooMany (before : List LineToken) (t : LineToken) : Type 0 where
  pub lines : List lines.Line
  pub begun : Bool
  pub state : LineState
  pub method : EndsInMethod before lines begun
  pub not_end : word t ≢ word_case.LineEnd
  pub no_head : ¬ BeginsBlock t
  pub enters : Enters lines begun t (from state)
  pub deep : IsTooDeep lines state t

-- Where 8 stands: for a block too many where the line of the text begins, and else where the line with this token is
-- refused, at the expression's first token or, in an action, at the line's.
pub data NestedAt (before : List LineToken) (t : LineToken) (after : List LineToken) : Place → Type 0 where
  by_depth : OpensTooMany before t → NestedAt before t after (line_begin before t)
  by_height : {p : Place} (ts : List LineToken) (u : LineToken) (us vs : List LineToken) (q : LineState) → before ≡ ts ++ us → us ++ t ∷ after ≡ u ∷ vs →
      ¬ OpensTooMany before t → BeginsLine ts u q → Reads q (u ∷ vs) (refused (refusal_number TooNested) p) → NestedAt before t after p

-- The line that begins with this token in a method is refused with this number at the token's own place: at the last token
-- of a text, which is also the place of the text's end.
pub record IsRefusedThere (before : List LineToken) (t : LineToken) (after : List LineToken) (n : ℕ) : Type 0 where
  pub lines : List lines.Line
  pub begun : Bool
  pub state : LineState
  pub method : EndsInMethod before lines begun
  pub enters : Enters lines begun t (from state)
  pub reads : Reads state (t ∷ after) (refused n t.place)

-- Where this token is the first with which the tokens begin no file within the limits, they are refused so.
pub data RefusedBy (before : List LineToken) (t : LineToken) (after : List LineToken) : ℕ → Place → Type 0 where
  unfit : {n : ℕ} → ¬ Begins (before ++ t ∷ []) → NumberAt before t n → RefusedBy before t after n t.place
  too_nested : {p : Place} → Begins (before ++ t ∷ []) → ((n : ℕ) → ¬ IsRefusedThere before t after n) → NestedAt before t after p →
      RefusedBy before t after (refusal_number TooNested) p
  -- of what stands at one place, one block too many is told last
  refused_there : {n : ℕ} → Begins (before ++ t ∷ []) → IsRefusedThere before t after n → RefusedBy before t after n t.place

-- These tokens are refused with this number at this place.
pub record IsRefused (ts : List LineToken) (n : ℕ) (p : Place) : Type 0 where
  pub before : List LineToken
  pub token : LineToken
  pub after : List LineToken
  pub split : ts ≡ before ++ token ∷ after
  pub begins : BeginsWithinLimits before
  pub stops : ¬ BeginsWithinLimits (before ++ token ∷ [])
  pub refusal : RefusedBy before token after n p
