-- The lines of DAT (Propeller Manual v1.2, "Propeller Assembly Language Reference"; all that it leaves open is this project's profile). A line ends with
-- the end of its line.
use Rattle.std.specs.Prelude.{ℕ, false, bit_or, if◌then◌else◌, List, [], ◌∷◌, Option, Some, None, option_map, is_some}
use Rattle.p8_tree.specs.declared.places.Place.{Place}
use Rattle.p8_tree.specs.Expressions.{Tree, node, Str}
use Rattle.p8_tree.specs.Sources.{Datum, Instruction, Data, Org as org, Res as res, Fit as fit, Instr, Line}
use Rattle.p8_instr.specs.Mnemonics.{entry_of, mnemonics}
use Rattle.p8_lexer.specs.declared.word.Word.{Word}
use Rattle.p8_lexer.specs.declared.word.Word.TheVariants.{LineEnd, Comma, Hash, Colon, LeftBracket, RightBracket, ByteSize, WordSize, LongSize, Org, Res, Fit}
use Rattle.p8_lexer.specs.declared.word.Word.TheVariants.{Jmp, Wz, Wc, Wr, Nr}
use Rattle.p8_lexer.specs.Pieces.{Piece, word, name, label, text, tree}
use Rattle.p8_declarations.specs.Lines.{local, datum, direct, immediate, label as named, filled, blank}
use Rattle.p8_prop.specs.Words.{spelling, condition_of}
use Rattle.p8_prop.specs.DeclaredLines.{with_first}

-- ---- data: a size, a value or a string of two characters or more, and a count in brackets, with commas between them; a size alone has none

abbrev pub items : Option ℕ → List Piece → Option (List Datum)
items s (text (c ∷ d ∷ t) p ∷ word Comma q ∷ row) = with_first (datum s (node p (Str (c ∷ d ∷ t))) None) (items None row)
items s (text (c ∷ d ∷ t) p ∷ word LineEnd q ∷ row) = Some (datum s (node p (Str (c ∷ d ∷ t))) None ∷ [])
items s (tree e p ∷ word LeftBracket q ∷ tree n r ∷ word RightBracket u ∷ word Comma v ∷ row) = with_first (datum s e (Some n)) (items None row)
items s (tree e p ∷ word LeftBracket q ∷ tree n r ∷ word RightBracket u ∷ word LineEnd v ∷ row) = Some (datum s e (Some n) ∷ [])
items s (tree e p ∷ word Comma q ∷ row) = with_first (datum s e None) (items None row)
items s (tree e p ∷ word LineEnd q ∷ row) = Some (datum s e None ∷ [])
items None (word ByteSize p ∷ row) = items (Some 1) row
items None (word WordSize p ∷ row) = items (Some 2) row
items None (word LongSize p ∷ row) = items (Some 4) row
items s _ = None

abbrev pub all_items : List Piece → Option (List Datum)
all_items (word LineEnd p ∷ row) = Some []
all_items row = items None row

-- ---- instructions: a destination and a source behind a comma, either of which may be missing, and effects

-- an instruction's word, its place and its condition, with no operand and no effect
unfoldable pub bare : ℕ → Word → Place → Instruction
bare c w p = record { cond = c; word = spelling w; dest = None; dest_place = p; immediate = false; source = None; source_place = p; effects = 0 }

abbrev pub effects : Instruction → List Piece → Option Instruction
effects x (word Wz p ∷ row) = effects (record x { effects = bit_or x.effects 1 }) row
effects x (word Wc p ∷ row) = effects (record x { effects = bit_or x.effects 2 }) row
effects x (word Wr p ∷ row) = effects (record x { effects = bit_or x.effects 4 }) row
effects x (word Nr p ∷ row) = effects (record x { effects = bit_or x.effects 8 }) row
effects x (word Comma p ∷ row) = effects x row
effects x (word LineEnd p ∷ row) = Some x
effects x _ = None

abbrev pub source : Instruction → List Piece → Option Instruction
source x (word Hash p ∷ tree e q ∷ row) = effects (immediate x e q) row
source x (word Hash p ∷ name n q ∷ row) = effects (immediate x (named n q) q) row
source x (word Hash p ∷ word Colon q ∷ label n r ∷ row) = effects (immediate x (named (local n) q) q) row
source x (tree e p ∷ row) = effects (direct x e p) row
source x row = effects x row

abbrev pub operands : Instruction → List Piece → Option Instruction
operands x (tree e p ∷ word Comma q ∷ row) = source (record x { dest = Some e; dest_place = p }) row
operands x (tree e p ∷ row) = effects (record x { dest = Some e; dest_place = p }) row
operands x row = source x row

-- from the word of an instruction under a condition on; JMP has a source alone
abbrev pub instruction : ℕ → Line → List Piece → Option Line
instruction c x (word Jmp p ∷ row) = option_map (λ i. filled x p (Instr i)) (source (bare c Jmp p) row)
instruction c x (word w p ∷ row) =
    if is_some (entry_of mnemonics (spelling w)) then option_map (λ i. filled x p (Instr i)) (operands (bare c w p) row) else None
instruction c x _ = None

-- ---- lines

-- ORG, RES and FIT have a value, or none
abbrev pub value : List Piece → Option (Option Tree)
value (word LineEnd p ∷ row) = Some None
value (tree e p ∷ word LineEnd q ∷ row) = Some (Some e)
value _ = None

-- behind a condition, or without one
abbrev pub conditional : Option ℕ → Word → Place → Line → List Piece → Option Line
conditional (Some c) w p x row = instruction c x row
conditional None w p x row = instruction 15 x (word w p ∷ row)

-- what stands behind a label, or in a line without one
abbrev pub body : Line → List Piece → Option Line
body x (word LineEnd p ∷ row) = Some x
body x (word ByteSize p ∷ row) = option_map (λ d. filled x p (Data 1 d)) (all_items row)
body x (word WordSize p ∷ row) = option_map (λ d. filled x p (Data 2 d)) (all_items row)
body x (word LongSize p ∷ row) = option_map (λ d. filled x p (Data 4 d)) (all_items row)
body x (word Org p ∷ row) = option_map (λ v. filled x p (org v)) (value row)
body x (word Res p ∷ row) = option_map (λ v. filled x p (res v)) (value row)
body x (word Fit p ∷ row) = option_map (λ v. filled x p (fit v)) (value row)
body x (word w p ∷ row) = conditional (condition_of w) w p x row
body x _ = None

abbrev pub one : Option Line → Option (List Line)
one x = option_map (λ x. x ∷ []) x

-- the line, if there is one; the end of a line alone is none
abbrev pub lines_of : List Piece → Option (List Line)
lines_of (word LineEnd p ∷ row) = Some []
lines_of (name n p ∷ row) = one (body (blank p (Some n)) row)
lines_of (word Colon p ∷ label n q ∷ row) = one (body (blank p (Some (local n))) row)
lines_of (word w p ∷ row) = one (body (blank p None) (word w p ∷ row))
lines_of _ = None
