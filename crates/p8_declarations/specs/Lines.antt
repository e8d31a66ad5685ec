-- Which line of DAT a row of pieces is (Propeller Manual v1.2, "Propeller Assembly Language Reference"; all
-- that it leaves open is this project's profile). Each row that the diagram of lines gives for DAT is one. How
-- many operands and which effects an instruction may have is the diagram's to say: here only the row tells.
use Rattle.std.specs.Prelude.{ℕ, true, false, bit_or, List, [], ◌∷◌, ◌++◌, Option, Some, None, option_map}
use Rattle.p8_tree.specs.declared.places.Place.{Place}
use Rattle.p8_tree.specs.Expressions.{Tree, node, Str, Var, Named, no_index}
use Rattle.p8_tree.specs.Sources.{Datum, Instruction, Contents, Nothing, Data, Org, Res, Fit, Instr, Line}
use Rattle.p8_lexer.specs.declared.word.Word.{Word}
use Rattle.p8_lexer.specs.declared.word.Word.TheVariants.{Jmp}
use Rattle.p8_lexer.specs.Words.{spelling}
use Rattle.p8_lexer.specs.Pieces.{Piece}
use Rattle.p8_declarations.specs.DataParts.{Part, colon, comma, hash, left_bracket, right_bracket, size, org, res, fit, condition, effect, jump}
use Rattle.p8_declarations.specs.DataParts.{other, name, behind_colon, text, tree, place_of, parts}

-- a local label's name: `:` and its letters
abbrev pub local : List ℕ → List ℕ
local n = 58 ∷ n

-- ORG, RES and FIT: a value, or none
abbrev pub value : List Part → Option (Option Tree)
value [] = Some None
value (tree e p ∷ []) = Some (Some e)
value row = None

-- How far an item of data is read: its size; its value; `[`; the count; its end, which is `]`, or a string,
-- which has no count.
pub data Stage : Type 0 where
  before : Option ℕ → Stage
  behind : Option ℕ → Tree → Stage
  open_bracket : Option ℕ → Tree → Stage
  counted : Option ℕ → Tree → Tree → Stage
  over : Option ℕ → Tree → Option Tree → Stage

abbrev pub datum : Option ℕ → Tree → Option Tree → Datum
datum s e c = record { size = s; value = e; count = c }

-- the items of a line of data, of which some are read
abbrev pub items : List Datum → Stage → List Part → Option (List Datum)
items read (before None) (size n p ∷ row) = items read (before (Some n)) row
items read (before s) (tree e p ∷ row) = items read (behind s e) row
items read (before s) (text t p ∷ row) = items read (over s (node p (Str t)) None) row
items read (behind s e) [] = Some (read ++ datum s e None ∷ [])
items read (behind s e) (comma ∷ row) = items (read ++ datum s e None ∷ []) (before None) row
items read (behind s e) (left_bracket ∷ row) = items read (open_bracket s e) row
items read (open_bracket s e) (tree c p ∷ row) = items read (counted s e c) row
items read (counted s e c) (right_bracket ∷ row) = items read (over s e (Some c)) row
items read (over s e c) [] = Some (read ++ datum s e c ∷ [])
items read (over s e c) (comma ∷ row) = items (read ++ datum s e c ∷ []) (before None) row
items read stage row = None

-- a size word alone has no items
abbrev pub all_items : List Part → Option (List Datum)
all_items [] = Some []
all_items row = items [] (before None) row

-- an instruction's word, its place and its condition, with no operand and no effect
unfoldable pub bare : ℕ → Word → Place → Instruction
bare c w p = record { cond = c; word = spelling w; dest = None; dest_place = p; immediate = false; source = None; source_place = p; effects = 0 }

-- Effects: WZ is 1, WC 2, WR 4 and NR 8, with commas or spaces between them.
abbrev pub effects : Instruction → List Part → Option Instruction
effects x [] = Some x
effects x (effect b ∷ row) = effects (record x { effects = bit_or x.effects b }) row
effects x (comma ∷ row) = effects x row
effects x row = None

abbrev pub direct : Instruction → Tree → Place → Instruction
direct x e p = record x { source = Some e; source_place = p }

abbrev pub immediate : Instruction → Tree → Place → Instruction
immediate x e p = record x { immediate = true; source = Some e; source_place = p }

-- a label as an expression
abbrev pub label : List ℕ → Place → Tree
label n p = node p (Var (Named n no_index p))

-- after `#`: a value, or the label that CALL names
abbrev pub behind_hash : Instruction → List Part → Option Instruction
behind_hash x (tree e p ∷ row) = effects (immediate x e p) row
behind_hash x (name n p ∷ row) = effects (immediate x (label n p) p) row
behind_hash x (colon p ∷ behind_colon n q ∷ row) = effects (immediate x (label (local n) p) p) row
behind_hash x row = None

-- a source, if there is one, and effects
abbrev pub source : Instruction → List Part → Option Instruction
source x (hash ∷ row) = behind_hash x row
source x (tree e p ∷ row) = effects (direct x e p) row
source x row = effects x row

-- after a destination: a comma and a source, or effects
abbrev pub behind_destination : Instruction → List Part → Option Instruction
behind_destination x (comma ∷ row) = source x row
behind_destination x row = effects x row

-- an instruction but JMP: a destination, if there is one, and the rest
abbrev pub operands : Instruction → List Part → Option Instruction
operands x (tree e p ∷ row) = behind_destination (record x { dest = Some e; dest_place = p }) row
operands x row = source x row

-- a line with these contents, whose word stands here
abbrev pub filled : Line → Place → Contents → Line
filled x p c = record x { word_place = p; contents = c }

-- from the word of an instruction under a condition on
abbrev pub instruction : ℕ → Line → List Part → Option Line
instruction c x (jump p ∷ row) = option_map (λ i. filled x p (Instr i)) (source (bare c Jmp p) row)
instruction c x (other w p ∷ row) = option_map (λ i. filled x p (Instr i)) (operands (bare c w p) row)
instruction c x row = None

-- what stands after a label, or in a line without one
abbrev pub body : Line → List Part → Option Line
body x [] = Some x
body x (size n p ∷ row) = option_map (λ d. filled x p (Data n d)) (all_items row)
body x (org p ∷ row) = option_map (λ v. filled x p (Org v)) (value row)
body x (res p ∷ row) = option_map (λ v. filled x p (Res v)) (value row)
body x (fit p ∷ row) = option_map (λ v. filled x p (Fit v)) (value row)
body x (condition c ∷ row) = instruction c x row
body x row = instruction 15 x row

-- a line with nothing after its label
abbrev pub blank : Place → Option (List ℕ) → Line
blank p n = record { place = p; label = n; word_place = p; contents = Nothing }

-- a line whose first token stands here
abbrev pub line : Place → List Part → Option Line
line p (name n q ∷ row) = body (blank p (Some n)) row
line p (colon q ∷ behind_colon n r ∷ row) = body (blank p (Some (local n))) row
line p row = body (blank p None) row

-- some line, or none where the line's end stands alone
abbrev pub maybe_line : Place → List Part → Option (Option Line)
maybe_line p [] = Some None
maybe_line p row = option_map Some (line p row)

-- The line that a row of pieces with its line's end is, if it is a row of DAT; the end alone is no line.
abbrev pub line_of_row : List Piece → Option (Option Line)
line_of_row [] = None
line_of_row (x ∷ row) = maybe_line (place_of x) (parts (x ∷ row))
