-- Reading a file line by line: which tree or which refusal its tokens have. `Files` says without a reader what that means.
--
-- Lines are read one after the other. CON, VAR, OBJ, PUB, PRI and DAT in column 1 begin a block, and what stands
-- before the first of them is a CON. A line of a method is what the open blocks of its column make of it.
use Rattle.std.specs.Prelude.{◌≡◌, ◌≢◌, ℕ, ◌+◌, ◌≤◌, Bool, true, false, not, ◌&&◌, IsTrue, List, [], ◌∷◌, ◌++◌, length, if◌then◌else◌, Option, Some}
use Rattle.std.specs.Prelude.{None, unwrap_or}
use Rattle.std.specs.List.{list_any}
use Rattle.p8_tree.specs.declared.places.Place.{Place}
use Rattle.p8_tree.specs.Sources as trees
use Rattle.p8_tree.specs.Sources.{Constant, Declared, Child, MethodTree, BlockTree, Source}
use Rattle.p8_tree.specs.Statements.{Statements}
use Rattle.p8_lexer.specs.declared.word.Word.{Word}
use Rattle.p8_lexer.specs.declared.word.Word.TheVariants as word_case
use Rattle.p8_tree.specs.declared.refusal.Refusal.TheVariants.{BadIndent, TooNested, LoopWord}
use Rattle.p8_tree.specs.Refusals.{refusal_number}
use Rattle.p8_grammar.specs.Lexemes.{in_method}
use Rattle.p8_columns.specs.declared.room.Room.TheVariants as room
use Rattle.p8_columns.specs.declared.room.Chain.TheVariants as chain
use Rattle.p8_columns.specs.Lines as lines
use Rattle.p8_columns.specs.Lines.{Kind, is_repeat, is_plain_repeat}
use Rattle.p8_columns.specs.Columns.{open_for, innermost, last_up_to, IsAt, HasRoom, HasChain}
use Rattle.p8_columns.specs.Blocks.{AreStatements}
use Rattle.p8_lines.specs.declared.state.LineState.{LineState}
use Rattle.p8_lines.specs.declared.state.LineState.TheVariants as state
use Rattle.p8_lines.specs.Tokens.{LineToken, word}
use Rattle.p8_lines.specs.Lines.{Outcome, read, refused, number_of, Reads}
use Rattle.p8_declarations.specs.Constants.{constants_of_row}
use Rattle.p8_declarations.specs.Variables.{variables_of_row}
use Rattle.p8_declarations.specs.Objects.{objects_of_row}
use Rattle.p8_declarations.specs.Methods.{method_of_row}
use Rattle.p8_declarations.specs.Lines.{line_of_row}
use Rattle.p8_statements.specs.Statements.{kind_of_row}
use Rattle.p8_blocks.specs.Values.{ReadsAs}
use Rattle.p8_blocks.specs.Files.{lines_in, with_body, is_item, is_chain_word, is_loop_end_word, is_loop_word}

-- A block so far. A method has its head, with no body, and its lines.
pub data Part : Type 0 where
  constants : List Constant → Part
  variables : List Declared → Part
  objects : List Child → Part
  assembly : List trees.Line → Part
  method : MethodTree → List lines.Line → Part

-- The blocks so far, the newest first; and after the colon of a CASE's item, where its line begins.
pub record Position : Type 0 where
  pub parts : List Part
  pub begun : Option Place

abbrev pub at : List Part → Option Place → Position
at parts begun = record { parts = parts; begun = begun }

abbrev pub start : Position
start = at [] None

-- the words that begin a block
abbrev pub is_block_word : Word → Bool
is_block_word word_case.Con = true
is_block_word word_case.Var = true
is_block_word word_case.Obj = true
is_block_word word_case.Pub = true
is_block_word word_case.Pri = true
is_block_word word_case.Dat = true
is_block_word _ = false

abbrev pub IsHead : LineToken → Type 0
IsHead t = IsTrue (is_block_word (word t)) × (t.place.column ≡ 1)

-- what may follow a block's word on its line
abbrev pub head_state : Word → LineState
head_state word_case.Con = state.ConHead
head_state word_case.Var = state.VarHead
head_state word_case.Obj = state.ObjHead
head_state word_case.Dat = state.DatHead
head_state _ = state.MethodName

-- a line of a block that isn't a method
abbrev pub line_state : List Part → LineState
line_state [] = state.ConItem
line_state (constants xs ∷ ps) = state.ConItem
line_state (variables xs ∷ ps) = state.VarLine
line_state (objects xs ∷ ps) = state.ObjLine
line_state (assembly xs ∷ ps) = state.DatLine
line_state (method m ls ∷ ps) = state.Statement

-- whether a line is one of such a block
abbrev pub declares : List Part → Bool
declares (method m ls ∷ ps) = false
declares ps = true

-- whether a line of the text is begun, after the colon of a CASE's item
abbrev pub is_begun : Option Place → Bool
is_begun None = false
is_begun (Some p) = true

-- after the colon no line goes on with a chain or ends a loop
abbrev pub goes_on_chain : Bool → Word → Bool
goes_on_chain begun w = not begun && is_chain_word w

abbrev pub ends_loop : Bool → Word → Bool
ends_loop begun w = not begun && is_loop_end_word w

-- where a line of a method is read from, or the refusal of its first token
pub data Entry : Type 0 where
  from : LineState → Entry
  barred : ℕ → Entry

-- After these lines of a method, a line whose first token is this one is entered so: after the colon of a CASE's item,
-- or where a line of the text begins.
pub data Enters (ls : List lines.Line) (b : Bool) (t : LineToken) : Entry → Type 0 where
  -- an ELSE kind goes on with the chain at its column, unless that has its ELSE
  goes_on : IsTrue (goes_on_chain b (word t)) → HasChain chain.Begun t.place.column (last_up_to t.place.column ls) → Enters ls b t (from state.ChainLine)
  chain_over : IsTrue (goes_on_chain b (word t)) → HasChain chain.Ended t.place.column (last_up_to t.place.column ls) →
      Enters ls b t (barred (number_of in_method (word t)))
  no_chain : IsTrue (goes_on_chain b (word t)) → HasChain chain.Missing t.place.column (last_up_to t.place.column ls) →
      Enters ls b t (barred (refusal_number BadIndent))
  -- WHILE and UNTIL end the plain REPEAT at their column
  loop_end : IsTrue (ends_loop b (word t)) → IsAt is_plain_repeat t.place.column (last_up_to t.place.column ls) → Enters ls b t (from state.LoopEndLine)
  no_loop : IsTrue (ends_loop b (word t)) → ¬ IsAt is_plain_repeat t.place.column (last_up_to t.place.column ls) →
      Enters ls b t (barred (refusal_number BadIndent))
  -- any other line is a statement, or an item directly under a CASE, which takes nothing more after its OTHER
  statement : goes_on_chain b (word t) ≡ false → ends_loop b (word t) ≡ false → HasRoom room.Statement (innermost t.place.column ls) →
      Enters ls b t (from state.Statement)
  item : goes_on_chain b (word t) ≡ false → ends_loop b (word t) ≡ false → HasRoom room.Item (innermost t.place.column ls) → Enters ls b t (from state.CaseItem)
  after_other : goes_on_chain b (word t) ≡ false → ends_loop b (word t) ≡ false → HasRoom room.Nothing (innermost t.place.column ls) →
      Enters ls b t (barred (number_of in_method (word t)))

-- a line that opens a block
abbrev pub is_opener_word : Word → Bool
is_opener_word word_case.If = true
is_opener_word word_case.Ifnot = true
is_opener_word word_case.Case = true
is_opener_word word_case.Repeat = true
is_opener_word _ = false

abbrev pub opens : LineState → Word → Bool
opens state.Statement w = is_opener_word w
opens state.CaseItem w = true
opens q w = false

-- how many blocks may be open, the method counted
abbrev pub greatest_depth : ℕ
greatest_depth = 64

-- the line would open one block too many
abbrev pub IsTooDeep : List lines.Line → LineState → LineToken → Type 0
IsTooDeep ls q t = IsTrue (opens q (word t)) × (greatest_depth ≤ length (open_for t.place.column ls) + 1)

abbrev pub leaves_loop : LineState → Word → Bool
leaves_loop state.Statement w = is_loop_word w
leaves_loop q w = false

-- NEXT or QUIT, and no REPEAT is open there
abbrev pub HasNoLoop : List lines.Line → LineState → LineToken → Type 0
HasNoLoop ls q t = IsTrue (leaves_loop q (word t)) × (list_any (λ b. is_repeat b.opener.kind) (open_for t.place.column ls) ≡ false)

-- where the line at hand begins
abbrev pub begin : Option Place → LineToken → Place
begin b t = unwrap_or b t.place

abbrev pub begun_by : Kind → Option Place → LineToken → Option Place
begun_by k b t = if is_item k then Some (begin b t) else None

-- a block's word and what follows it on its line begin this part
pub data Opens (t : LineToken) (ts : List LineToken) : Part → List LineToken → Type 0 where
  con : {xs : List Constant} {rest : List LineToken} → word t ≡ word_case.Con → ReadsAs constants_of_row state.ConHead ts xs rest →
      Opens t ts (constants xs) rest
  var : {xs : List Declared} {rest : List LineToken} → word t ≡ word_case.Var → ReadsAs variables_of_row state.VarHead ts xs rest →
      Opens t ts (variables xs) rest
  obj : {xs : List Child} {rest : List LineToken} → word t ≡ word_case.Obj → ReadsAs objects_of_row state.ObjHead ts xs rest → Opens t ts (objects xs) rest
  pub_method : {m : MethodTree} {rest : List LineToken} → word t ≡ word_case.Pub → ReadsAs (method_of_row true) state.MethodName ts m rest →
      Opens t ts (method m []) rest
  pri_method : {m : MethodTree} {rest : List LineToken} → word t ≡ word_case.Pri → ReadsAs (method_of_row false) state.MethodName ts m rest →
      Opens t ts (method m []) rest
  dat : {o : Option trees.Line} {rest : List LineToken} → word t ≡ word_case.Dat → ReadsAs line_of_row state.DatHead ts o rest →
      Opens t ts (assembly (lines_in o)) rest

-- a line of a block that isn't a method is added to it
pub data Extends (ts : List LineToken) : List Part → List Part → List LineToken → Type 0 where
  first_constants : {xs : List Constant} {rest : List LineToken} → ReadsAs constants_of_row state.ConItem ts xs rest → Extends ts [] (constants xs ∷ []) rest
  more_constants : {xs ys : List Constant} {ps : List Part} {rest : List LineToken} → ReadsAs constants_of_row state.ConItem ts ys rest →
      Extends ts (constants xs ∷ ps) (constants (xs ++ ys) ∷ ps) rest
  more_variables : {xs ys : List Declared} {ps : List Part} {rest : List LineToken} → ReadsAs variables_of_row state.VarLine ts ys rest →
      Extends ts (variables xs ∷ ps) (variables (xs ++ ys) ∷ ps) rest
  more_objects : {xs ys : List Child} {ps : List Part} {rest : List LineToken} → ReadsAs objects_of_row state.ObjLine ts ys rest →
      Extends ts (objects xs ∷ ps) (objects (xs ++ ys) ∷ ps) rest
  more_assembly : {xs : List trees.Line} {o : Option trees.Line} {ps : List Part} {rest : List LineToken} →
      ReadsAs line_of_row state.DatLine ts o rest → Extends ts (assembly xs ∷ ps) (assembly (xs ++ lines_in o) ∷ ps) rest

-- One line without a refusal leads from a position, with these tokens to come, to another.
pub data Step : Position → List LineToken → Position → List LineToken → Type 0 where
  -- a line's end, where no line begins
  blank : {ps : List Part} {b : Option Place} {t : LineToken} {ts : List LineToken} → word t ≡ word_case.LineEnd → Step (at ps b) (t ∷ ts) (at ps None) ts
  head : {ps : List Part} {p : Part} {b : Option Place} {t : LineToken} {ts rest : List LineToken} → IsHead t → Opens t ts p rest →
      Step (at ps b) (t ∷ ts) (at (p ∷ ps) None) rest
  declaration : {ps qs : List Part} {b : Option Place} {t : LineToken} {ts rest : List LineToken} → word t ≢ word_case.LineEnd → ¬ IsHead t →
      Extends (t ∷ ts) ps qs rest → Step (at ps b) (t ∷ ts) (at qs None) rest
  method_line : {m : MethodTree} {ls : List lines.Line} {ps : List Part} {b : Option Place} {t : LineToken} {ts rest : List LineToken} {q : LineState}
      {k : Kind} → word t ≢ word_case.LineEnd → ¬ IsHead t → Enters ls (is_begun b) t (from q) → ¬ HasNoLoop ls q t → ¬ IsTooDeep ls q t →
      ReadsAs kind_of_row q (t ∷ ts) k rest → Step (at (method m ls ∷ ps) b) (t ∷ ts)
      (at (method m (ls ++ lines.line t.place k ∷ []) ∷ ps) (begun_by k b t)) rest

-- Lines without a refusal lead from a position to another.
pub data Goes : Position → List LineToken → Position → List LineToken → Type 0 where
  stay : {x : Position} {ts : List LineToken} → Goes x ts x ts
  go_on : {x y z : Position} {ts us vs : List LineToken} → Goes x ts y us → Step y us z vs → Goes x ts z vs

abbrev pub IsRefusedAt : Place → Outcome → Type 0
IsRefusedAt p (read row rest) = ⊥
IsRefusedAt p (refused n q) = q ≡ p

-- The line that begins with the first of these tokens has this refusal first.
pub data Fails : Position → List LineToken → ℕ → Place → Type 0 where
  head_fails : {ps : List Part} {b : Option Place} {t : LineToken} {ts : List LineToken} {n : ℕ} {p : Place} → IsHead t →
      Reads (head_state (word t)) ts (refused n p) → Fails (at ps b) (t ∷ ts) n p
  declaration_fails : {ps : List Part} {b : Option Place} {t : LineToken} {ts : List LineToken} {n : ℕ} {p : Place} → word t ≢ word_case.LineEnd →
      ¬ IsHead t → IsTrue (declares ps) → Reads (line_state ps) (t ∷ ts) (refused n p) → Fails (at ps b) (t ∷ ts) n p
  entry_fails : {m : MethodTree} {ls : List lines.Line} {ps : List Part} {b : Option Place} {t : LineToken} {ts : List LineToken} {n : ℕ} →
      word t ≢ word_case.LineEnd → ¬ IsHead t → Enters ls (is_begun b) t (barred n) → Fails (at (method m ls ∷ ps) b) (t ∷ ts) n t.place
  no_loop_fails : {m : MethodTree} {ls : List lines.Line} {ps : List Part} {b : Option Place} {t : LineToken} {ts : List LineToken} {q : LineState} →
      word t ≢ word_case.LineEnd → ¬ IsHead t → Enters ls (is_begun b) t (from q) → HasNoLoop ls q t →
      Fails (at (method m ls ∷ ps) b) (t ∷ ts) (refusal_number LoopWord) t.place
  -- one block too many is told where the line of the text begins, unless the first token begins no line there
  too_deep_fails : {m : MethodTree} {ls : List lines.Line} {ps : List Part} {b : Option Place} {t : LineToken} {ts : List LineToken} {q : LineState}
      {o : Outcome} → word t ≢ word_case.LineEnd → ¬ IsHead t → Enters ls (is_begun b) t (from q) → IsTooDeep ls q t → Reads q (t ∷ ts) o →
      ¬ IsRefusedAt t.place o → Fails (at (method m ls ∷ ps) b) (t ∷ ts) (refusal_number TooNested) (begin b t)
  line_fails : {m : MethodTree} {ls : List lines.Line} {ps : List Part} {b : Option Place} {t : LineToken} {ts : List LineToken} {q : LineState} {n : ℕ}
      {p : Place} → word t ≢ word_case.LineEnd → ¬ IsHead t → Enters ls (is_begun b) t (from q) → ¬ HasNoLoop ls q t →
      (IsTooDeep ls q t → p ≡ t.place) → Reads q (t ∷ ts) (refused n p) → Fails (at (method m ls ∷ ps) b) (t ∷ ts) n p

-- a part as a block of the tree: the lines of a method are its statements
pub data IsBlock : Part → BlockTree → Type 0 where
  con_block : {xs : List Constant} → IsBlock (constants xs) (trees.Con xs)
  var_block : {xs : List Declared} → IsBlock (variables xs) (trees.Var xs)
  obj_block : {xs : List Child} → IsBlock (objects xs) (trees.Obj xs)
  dat_block : {xs : List trees.Line} → IsBlock (assembly xs) (trees.Dat xs)
  method_block : {m : MethodTree} {ls : List lines.Line} {ss : Statements} → AreStatements ss ls → IsBlock (method m ls) (trees.Method (with_body m ss))

pub data AreBlocks : List Part → Source → Type 0 where
  no_blocks : AreBlocks [] []
  one_more : {ps : List Part} {p : Part} {bs : Source} {b : BlockTree} → AreBlocks ps bs → IsBlock p b → AreBlocks (p ∷ ps) (bs ++ b ∷ [])

pub data Answer : Type 0 where
  source : Source → Answer
  fault : ℕ → Place → Answer

-- Reading these tokens as a file answers so.
pub data Parses (ts : List LineToken) : Answer → Type 0 where
  whole : {x : Position} {s : Source} → Goes start ts x [] → AreBlocks x.parts s → Parses ts (source s)
  fails : {x : Position} {us : List LineToken} {n : ℕ} {p : Place} → Goes start ts x us → Fails x us n p → Parses ts (fault n p)
