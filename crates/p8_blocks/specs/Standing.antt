-- internal: what the code's blocks so far stand for, and what its functions say of a line.
use Rattle.std.specs.Prelude.{◌≡◌, ◌≢◌, ℕ, Bool, true, IsTrue, List, [], ◌∷◌, map, Option, Some, None}
use Rattle.p8_tree.specs.declared.places.Place.{Place}
use Rattle.p8_tree.specs.declared.sources.Block.{Block}
use Rattle.p8_tree.specs.Views.{constant_of, declared_of, child_of, line_of, method_of, block_of}
use Rattle.p8_lexer.specs.declared.word.Word.{Word}
use Rattle.p8_lexer.specs.declared.word.Word.TheVariants as word_case
use Rattle.p8_tree.specs.declared.refusal.Refusal.TheVariants.{TooNested}
use Rattle.p8_tree.specs.Refusals.{refusal_number}
use Rattle.p8_columns.specs.Lines as lines
use Rattle.p8_columns.specs.Taken.{HasTaken}
use Rattle.p8_lines.specs.declared.state.LineState.{LineState}
use Rattle.p8_lines.specs.Tokens.{LineToken, word}
use Rattle.p8_lines.specs.Lines.{Outcome, refused, Reads}
use Rattle.p8_blocks.specs.Values.{begins_line}
use Rattle.p8_blocks.specs.Reading.{Part, constants, variables, objects, assembly, method, Position, at, AreBlocks, Entry, from, barred, Enters}
use Rattle.p8_blocks.specs.Reading.{HasNoLoop, IsTooDeep, IsHead, is_block_word, is_begun, begin, Opens, Extends, Step, Goes, start, IsRefusedAt}
use Rattle.p8_blocks.specs.declared.words.BlockWord as head
use Rattle.p8_blocks.specs.declared.words.BlockWord.TheVariants as head_case
use Rattle.p8_blocks.specs.declared.first.First.{First}
use Rattle.p8_blocks.specs.declared.entry.Entry as entry
use Rattle.p8_blocks.specs.declared.entry.Entry.TheVariants as entry_case
use Rattle.p8_blocks.specs.declared.growing.Open as opened
use Rattle.p8_blocks.specs.declared.growing.Open.TheVariants as open_case
use Rattle.p8_blocks.specs.declared.growing.Growing.{Growing}
use Rattle.p8_blocks.specs.declared.lines.Extended.{Extended}

-- the block at hand stands for a part: of a method the blocks have taken the lines
abbrev pub IsOpen : Part → opened.Open → Type 0
IsOpen p (open_case.Constants xs) = p ≡ constants (map constant_of xs)
IsOpen p (open_case.Variables xs) = p ≡ variables (map declared_of xs)
IsOpen p (open_case.Objects xs) = p ≡ objects (map child_of xs)
IsOpen p (open_case.Data xs) = p ≡ assembly (map line_of xs)
IsOpen p (open_case.Method m blocks) = (ls : List lines.Line) × HasTaken ls blocks × (p ≡ method (method_of m) ls)

-- no block is at hand, or the newest part is, and the others are done
abbrev pub ArePartsOf : List Part → Option opened.Open → List Block → Type 0
ArePartsOf ps None done = (ps ≡ []) × (done ≡ [])
ArePartsOf [] (Some o) done = ⊥
ArePartsOf (p ∷ ps) (Some o) done = IsOpen p o × AreBlocks ps (map block_of done)

pub record StandsFor (x : Position) (file : Growing) : Type 0 where
  pub parts : ArePartsOf x.parts file.current file.done
  pub begun : x.begun ≡ file.begun

-- the words that begin blocks
abbrev pub word_of_head : head.BlockWord → Word
word_of_head head_case.Con = word_case.Con
word_of_head head_case.Var = word_case.Var
word_of_head head_case.Obj = word_case.Obj
word_of_head head_case.Pub = word_case.Pub
word_of_head head_case.Pri = word_case.Pri
word_of_head head_case.Dat = word_case.Dat

abbrev pub head_of : Word → Option head.BlockWord
head_of word_case.Con = Some head_case.Con
head_of word_case.Var = Some head_case.Var
head_of word_case.Obj = Some head_case.Obj
head_of word_case.Pub = Some head_case.Pub
head_of word_case.Pri = Some head_case.Pri
head_of word_case.Dat = Some head_case.Dat
head_of _ = None

-- the code's first token of a line is this one, after what was begun
pub record IsFirst (b : Option Place) (t : LineToken) (first : First) : Type 0 where
  pub same_begun : is_begun b ≡ first.begun
  pub same_word : word t ≡ first.word
  pub same_place : t.place ≡ first.place
  pub same_begin : begin b t ≡ first.begin

-- some token is the code's first token
pub record IsToken (first : First) : Type 0 where
  pub token : LineToken
  pub same_word : word token ≡ first.word
  pub same_place : token.place ≡ first.place

-- a line of these tokens begins with it
pub record Starts (ts us : List LineToken) (b : Option Place) (first : First) : Type 0 where
  pub token : LineToken
  pub tokens : ts ≡ token ∷ us
  pub is : IsFirst b token first

abbrev pub IsHeadAt : Word → Place → Type 0
IsHeadAt w p = IsTrue (is_block_word w) × (p.column ≡ 1)

-- and it neither ends a line nor begins a block
pub record Inner (ts us : List LineToken) (b : Option Place) (first : First) : Type 0 where
  pub token : LineToken
  pub tokens : ts ≡ token ∷ us
  pub is : IsFirst b token first
  pub not_end : word token ≢ word_case.LineEnd
  pub no_head : ¬ IsHead token

abbrev pub entry_of : entry.Entry → Entry
entry_of (entry_case.From q) = from q
entry_of (entry_case.Barred r) = barred (refusal_number r)

-- lines of a method are read from the state, if it is entered
abbrev pub begins_entry : Entry → Bool
begins_entry (from q) = begins_line q
begins_entry (barred n) = true

-- a line of a method may be read so
pub record MayRead (ls : List lines.Line) (b : Bool) (t : LineToken) (q : LineState) : Type 0 where
  pub enters : Enters ls b t (from q)
  pub loops : ¬ HasNoLoop ls q t
  pub shallow : ¬ IsTooDeep ls q t

-- the refusal of a line that is too deep: its first token stands at the first place, and it begins at the other
pub data TellsTooDeep (q : LineState) (ts : List LineToken) (first begin : Place) : ℕ → Place → Type 0 where
  too_deep : {o : Outcome} → Reads q ts o → ¬ IsRefusedAt first o → TellsTooDeep q ts first begin (refusal_number TooNested) begin
  refused_there : {n : ℕ} (p : Place) → p ≡ first → Reads q ts (refused n p) → TellsTooDeep q ts first begin n p

-- a block's word and what follows it begin this block
pub record Begins (t : LineToken) (ts : List LineToken) (o : opened.Open) (rest : List LineToken) : Type 0 where
  pub part : Part
  pub opens : Opens t ts part rest
  pub stands : IsOpen part o

-- the line of a block that isn't a method is added to it
pub record Added (qs ps : List Part) (ts : List LineToken) (line : Extended) (rest : List LineToken) : Type 0 where
  pub part : Part
  pub extends : Extends ts qs (part ∷ ps) rest
  pub stands : IsOpen part line.block
  pub begun : line.begun ≡ None

-- a line leads from these parts to the block at hand and those before it
pub record Grown (qs ps : List Part) (b : Option Place) (ts : List LineToken) (line : Extended) (rest : List LineToken) : Type 0 where
  pub part : Part
  pub step : Step (at qs b) ts (at (part ∷ ps) line.begun) rest
  pub stands : IsOpen part line.block

-- a line leads from a position to one that the file stands for
pub record Continues (x : Position) (ts : List LineToken) (file : Growing) (rest : List LineToken) : Type 0 where
  pub next : Position
  pub step : Step x ts next rest
  pub stands : StandsFor next file

-- lines lead from these tokens, with those to come, to a position that the file stands for
pub record Reached (ts us : List LineToken) (file : Growing) : Type 0 where
  pub position : Position
  pub goes : Goes start ts position us
  pub stands : StandsFor position file
