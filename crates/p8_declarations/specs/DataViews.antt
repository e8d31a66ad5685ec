-- What the code's values stand for: internal.
use Rattle.std.specs.Prelude.{◌≡◌, List, [], ◌∷◌, Option, Some, None, option_map}
use Rattle.std.specs.Vec.Iter.{into_iter_items}
use Rattle.p8_tree.specs.Views.{tree_of}
use Rattle.p8_tree.specs.Sources.{Datum, Instruction, Line}
use Rattle.p8_lexer.specs.Pieces.{pieces_of}
use Rattle.p8_declarations.specs.declared.data_part.Part as code
use Rattle.p8_declarations.specs.declared.data_part.Part.TheVariants as code_case
use Rattle.p8_declarations.specs.declared.data_pieces.DataPieces.{DataPieces}
use Rattle.p8_declarations.specs.declared.lines.DataLineHead.{DataLineHead}
use Rattle.p8_declarations.specs.declared.items.DataItemStage as code_stage
use Rattle.p8_declarations.specs.declared.items.DataItemStage.TheVariants as stage_case
use Rattle.p8_declarations.specs.DataParts.{Part, line_end, colon, comma, hash, left_bracket, right_bracket, size, org, res, fit, condition, effect}
use Rattle.p8_declarations.specs.DataParts.{jump, other, name, behind_colon, text, tree, parts}
use Rattle.p8_declarations.specs.Lines.{Stage, before, behind, open_bracket, counted, over, items, effects, blank}

abbrev pub part_of : code.Part → Part
part_of code_case.LineEnd = line_end
part_of (code_case.Colon p) = colon p
part_of code_case.Comma = comma
part_of code_case.Hash = hash
part_of code_case.LeftBracket = left_bracket
part_of code_case.RightBracket = right_bracket
part_of (code_case.Size n p) = size n p
part_of (code_case.Org p) = org p
part_of (code_case.Res p) = res p
part_of (code_case.Fit p) = fit p
part_of (code_case.Condition c) = condition c
part_of (code_case.Effect b) = effect b
part_of (code_case.Jump p) = jump p
part_of (code_case.Other w p) = other w p
part_of (code_case.Name n p) = name n p
part_of (code_case.Label n p) = behind_colon n p
part_of (code_case.Text t p) = text t p
part_of (code_case.Tree e p) = tree (tree_of e) p

-- what is left of a row
abbrev pub rest : DataPieces → List Part
rest row = parts (pieces_of (into_iter_items row.pieces))

-- the part that stands next, if there is one, and what is left after it
abbrev pub from : Option code.Part → DataPieces → List Part
from None row = []
from (Some x) row = part_of x ∷ rest row

abbrev pub stage_of : code_stage.DataItemStage → Stage
stage_of (stage_case.Before s) = before s
stage_of (stage_case.Behind s e) = behind s (tree_of e)
stage_of (stage_case.OpenBracket s e) = open_bracket s (tree_of e)
stage_of (stage_case.Counted s e c) = counted s (tree_of e) (tree_of c)
stage_of (stage_case.Over s e c) = over s (tree_of e) (option_map tree_of c)

-- A part leads from these items and this stage of the next one to those; or it can't stand there.
abbrev pub Steps : List Datum → Stage → Part → List Datum → Option Stage → Type 0
Steps read s x after None = (row : List Part) → items read s (x ∷ row) ≡ None
Steps read s x after (Some t) = (row : List Part) → items read s (x ∷ row) ≡ items after t row

-- A part leads from this instruction to that one; or it is no effect.
abbrev pub Affects : Instruction → Part → Option Instruction → Type 0
Affects i x None = (row : List Part) → effects i (x ∷ row) ≡ None
Affects i x (Some j) = (row : List Part) → effects i (x ∷ row) ≡ effects j row

-- a line with nothing after its label
abbrev pub begun : DataLineHead → Line
begun head = blank head.place head.label
