-- The forms of lines as a diagram: at each of its states, which tokens may stand next, or an expression
-- and what may stand after it (Propeller Manual v1.2, "Spin Language Reference" and "Propeller Assembly
-- Language Reference": the entries of the words; all that they leave open is this project's profile).
use Rattle.std.specs.Prelude.{List, [], ◌∷◌, Option, Some, None}
use Rattle.p8_lexer.specs.declared.word.Word.{Word}
use Rattle.p8_lexer.specs.declared.word.Word.TheVariants as word
use Rattle.p8_grammar.specs.Lexemes.{Setting, in_method, in_declaration, in_dat, in_data_item, in_action}
use Rattle.p8_lines.specs.declared.sign.Sign.{Sign}
use Rattle.p8_lines.specs.declared.sign.Sign.TheVariants as sign
use Rattle.p8_lines.specs.declared.state.LineState.{LineState}
use Rattle.p8_lines.specs.declared.state.LineState.TheVariants as state
use Rattle.p8_lines.specs.declared.arrow.Arrow.{Arrow}

infix 70 ◌⇒◌
-- a word, and where it leads
abbrev pub ◌⇒◌ : Word → LineState → Arrow
w ⇒ q = record { sign = sign.Word w; to = q }

-- each token of a kind, and where it leads
abbrev pub any : Sign → LineState → Arrow
any s q = record { sign = s; to = q }

-- an expression, or an action: where it stands, and the tokens that may stand after it, where it is one name and where it
-- is any other
pub record Phrase : Type 0 where
  pub setting : Setting
  pub behind_name : List Arrow
  pub behind_other : List Arrow

abbrev pub outer : Setting → List Arrow → Phrase
outer s behind = record { setting = s; behind_name = behind; behind_other = behind }

-- what one name alone may be followed by is another
abbrev pub counting : Setting → List Arrow → List Arrow → Phrase
counting s behind behind_name = record { setting = s; behind_name = behind_name; behind_other = behind }

-- what may stand next
pub record Choices : Type 0 where
  pub arrows : List Arrow
  pub phrase : Option Phrase

abbrev pub tokens : List Arrow → Choices
tokens a = record { arrows = a; phrase = None }

abbrev pub expression : Phrase → Choices
expression h = record { arrows = []; phrase = Some h }

abbrev pub either : List Arrow → Phrase → Choices
either a h = record { arrows = a; phrase = Some h }

abbrev pub choices : LineState → Choices
-- The line has ended.
choices state.End = tokens ([])
choices state.LineEnd = tokens (word.LineEnd ⇒ state.End ∷ [])
-- CON: items `name = e`, `#e`, `name` and `name[e]`, with commas between them.
choices state.ConHead = tokens (word.LineEnd ⇒ state.End ∷ word.Name ⇒ state.ConName ∷ word.Hash ⇒ state.ConValue ∷ [])
choices state.ConItem = tokens (word.Name ⇒ state.ConName ∷ word.Hash ⇒ state.ConValue ∷ [])
choices state.ConName = tokens (word.EqualSign ⇒ state.ConValue ∷ word.LeftBracket ⇒ state.ConStep ∷ word.Comma ⇒ state.ConItem ∷ word.LineEnd ⇒ state.End ∷ [])
choices state.ConValue = expression (outer in_declaration (word.Comma ⇒ state.ConItem ∷ word.LineEnd ⇒ state.End ∷ []))
choices state.ConStep = expression (outer in_declaration (word.RightBracket ⇒ state.ConMore ∷ []))
choices state.ConMore = tokens (word.Comma ⇒ state.ConItem ∷ word.LineEnd ⇒ state.End ∷ [])
-- VAR: a size and names with counts in brackets, with commas between them.
choices state.VarHead = tokens (word.LineEnd ⇒ state.End ∷ any sign.Size state.VarName ∷ [])
choices state.VarLine = tokens (any sign.Size state.VarName ∷ [])
choices state.VarName = tokens (word.Name ⇒ state.VarNamed ∷ [])
choices state.VarNamed = tokens (word.LeftBracket ⇒ state.VarCount ∷ word.Comma ⇒ state.VarName ∷ word.LineEnd ⇒ state.End ∷ [])
choices state.VarCount = expression (outer in_declaration (word.RightBracket ⇒ state.VarMore ∷ []))
choices state.VarMore = tokens (word.Comma ⇒ state.VarName ∷ word.LineEnd ⇒ state.End ∷ [])
-- OBJ: `name : "file"` or `name[e] : "file"`.
choices state.ObjHead = tokens (word.LineEnd ⇒ state.End ∷ word.Name ⇒ state.ObjNamed ∷ [])
choices state.ObjLine = tokens (word.Name ⇒ state.ObjNamed ∷ [])
choices state.ObjNamed = tokens (word.LeftBracket ⇒ state.ObjCount ∷ word.Colon ⇒ state.ObjFile ∷ [])
choices state.ObjCount = expression (outer in_declaration (word.RightBracket ⇒ state.ObjColon ∷ []))
choices state.ObjColon = tokens (word.Colon ⇒ state.ObjFile ∷ [])
choices state.ObjFile = tokens (any sign.Text state.LineEnd ∷ [])
-- PUB and PRI: a name, parameters in parentheses, `: name` for the result and `| name, name[e]` for locals.
choices state.MethodName = tokens (word.Name ⇒ state.MethodNamed ∷ [])
choices state.MethodNamed = tokens (word.LeftParenthesis ⇒ state.Parameter ∷ word.Colon ⇒ state.ResultName ∷ word.BitOr ⇒ state.Local ∷
    word.LineEnd ⇒ state.End ∷ [])
choices state.Parameter = tokens (word.Name ⇒ state.MoreParameters ∷ [])
choices state.MoreParameters = tokens (word.Comma ⇒ state.Parameter ∷ word.RightParenthesis ⇒ state.Parameters ∷ [])
choices state.Parameters = tokens (word.Colon ⇒ state.ResultName ∷ word.BitOr ⇒ state.Local ∷ word.LineEnd ⇒ state.End ∷ [])
choices state.ResultName = tokens (word.Name ⇒ state.ResultNamed ∷ [])
choices state.ResultNamed = tokens (word.BitOr ⇒ state.Local ∷ word.LineEnd ⇒ state.End ∷ [])
choices state.Local = tokens (word.Name ⇒ state.LocalNamed ∷ [])
choices state.LocalNamed = tokens (word.LeftBracket ⇒ state.LocalCount ∷ word.Comma ⇒ state.Local ∷ word.LineEnd ⇒ state.End ∷ [])
choices state.LocalCount = expression (outer in_method (word.RightBracket ⇒ state.MoreLocals ∷ []))
choices state.MoreLocals = tokens (word.Comma ⇒ state.Local ∷ word.LineEnd ⇒ state.End ∷ [])
-- DAT: an optional label, then data, ORG, RES, FIT or an instruction.
choices state.DatHead = tokens (word.LineEnd ⇒ state.End ∷ word.Name ⇒ state.DatBody ∷ word.Colon ⇒ state.DatLabel ∷ any sign.Size state.FirstData ∷
    word.Org ⇒ state.DatValue ∷ word.Res ⇒ state.DatValue ∷ word.Fit ⇒ state.DatValue ∷ any sign.Condition state.Conditioned ∷
    any sign.TwoOperands state.Destination ∷ any sign.Memory state.MemoryDestination ∷ any sign.OneOperand state.OnlyDestination ∷
    word.Jmp ⇒ state.Source ∷ word.Call ⇒ state.CallHash ∷ word.Ret ⇒ state.Effects ∷ word.Nop ⇒ state.LineEnd ∷ [])
choices state.DatLine = tokens (word.Name ⇒ state.DatBody ∷ word.Colon ⇒ state.DatLabel ∷ any sign.Size state.FirstData ∷ word.Org ⇒ state.DatValue ∷
    word.Res ⇒ state.DatValue ∷ word.Fit ⇒ state.DatValue ∷ any sign.Condition state.Conditioned ∷ any sign.TwoOperands state.Destination ∷
    any sign.Memory state.MemoryDestination ∷ any sign.OneOperand state.OnlyDestination ∷ word.Jmp ⇒ state.Source ∷ word.Call ⇒ state.CallHash ∷
    word.Ret ⇒ state.Effects ∷ word.Nop ⇒ state.LineEnd ∷ [])
choices state.DatLabel = tokens (any sign.Label state.DatBody ∷ [])
choices state.DatBody = tokens (word.LineEnd ⇒ state.End ∷ any sign.Size state.FirstData ∷ word.Org ⇒ state.DatValue ∷ word.Res ⇒ state.DatValue ∷
    word.Fit ⇒ state.DatValue ∷ any sign.Condition state.Conditioned ∷ any sign.TwoOperands state.Destination ∷
    any sign.Memory state.MemoryDestination ∷ any sign.OneOperand state.OnlyDestination ∷ word.Jmp ⇒ state.Source ∷ word.Call ⇒ state.CallHash ∷
    word.Ret ⇒ state.Effects ∷ word.Nop ⇒ state.LineEnd ∷ [])
choices state.DatValue = either (word.LineEnd ⇒ state.End ∷ []) (outer in_dat (word.LineEnd ⇒ state.End ∷ []))
choices state.FirstData = either (word.LineEnd ⇒ state.End ∷ any sign.Size state.DataValue ∷ any sign.LongText state.MoreData ∷ [])
    (outer in_data_item (word.LeftBracket ⇒ state.DataCount ∷ word.Comma ⇒ state.Data ∷ word.LineEnd ⇒ state.End ∷ []))
choices state.Data = either (any sign.Size state.DataValue ∷ any sign.LongText state.MoreData ∷ [])
    (outer in_data_item (word.LeftBracket ⇒ state.DataCount ∷ word.Comma ⇒ state.Data ∷ word.LineEnd ⇒ state.End ∷ []))
choices state.DataValue = either (any sign.LongText state.MoreData ∷ [])
    (outer in_data_item (word.LeftBracket ⇒ state.DataCount ∷ word.Comma ⇒ state.Data ∷ word.LineEnd ⇒ state.End ∷ []))
choices state.DataCount = expression (outer in_dat (word.RightBracket ⇒ state.MoreData ∷ []))
choices state.MoreData = tokens (word.Comma ⇒ state.Data ∷ word.LineEnd ⇒ state.End ∷ [])
choices state.Conditioned = tokens (any sign.TwoOperands state.Destination ∷ any sign.Memory state.MemoryDestination ∷
    any sign.OneOperand state.OnlyDestination ∷ word.Jmp ⇒ state.Source ∷ word.Call ⇒ state.CallHash ∷ word.Ret ⇒ state.Effects ∷ word.Nop ⇒ state.LineEnd ∷ [])
choices state.Destination = expression (outer in_dat (word.Comma ⇒ state.Source ∷ []))
choices state.Source = either (word.Hash ⇒ state.SourceValue ∷ [])
    (outer in_dat (any sign.Flag state.MoreEffects ∷ any sign.Write state.MoreEffects ∷ word.LineEnd ⇒ state.End ∷ []))
choices state.SourceValue = expression (outer in_dat (any sign.Flag state.MoreEffects ∷ any sign.Write state.MoreEffects ∷ word.LineEnd ⇒ state.End ∷ []))
choices state.MemoryDestination = expression (outer in_dat (word.Comma ⇒ state.MemorySource ∷ []))
choices state.MemorySource = either (word.Hash ⇒ state.MemorySourceValue ∷ []) (outer in_dat (any sign.Flag state.MoreFlags ∷ word.LineEnd ⇒ state.End ∷ []))
choices state.MemorySourceValue = expression (outer in_dat (any sign.Flag state.MoreFlags ∷ word.LineEnd ⇒ state.End ∷ []))
choices state.OnlyDestination = expression (outer in_dat (any sign.Flag state.MoreEffects ∷ any sign.Write state.MoreEffects ∷ word.LineEnd ⇒ state.End ∷ []))
choices state.CallHash = tokens (word.Hash ⇒ state.CallLabel ∷ [])
choices state.CallLabel = tokens (word.Name ⇒ state.Effects ∷ word.Colon ⇒ state.CallLocal ∷ [])
choices state.CallLocal = tokens (any sign.Label state.Effects ∷ [])
choices state.Effects = tokens (any sign.Flag state.MoreEffects ∷ any sign.Write state.MoreEffects ∷ word.LineEnd ⇒ state.End ∷ [])
choices state.MoreEffects = tokens (any sign.Flag state.MoreEffects ∷ any sign.Write state.MoreEffects ∷ word.Comma ⇒ state.Effect ∷
    word.LineEnd ⇒ state.End ∷ [])
choices state.Effect = tokens (any sign.Flag state.MoreEffects ∷ any sign.Write state.MoreEffects ∷ [])
choices state.MoreFlags = tokens (any sign.Flag state.MoreFlags ∷ word.Comma ⇒ state.FlagEffect ∷ word.LineEnd ⇒ state.End ∷ [])
choices state.FlagEffect = tokens (any sign.Flag state.MoreFlags ∷ [])
-- Statements: an action is none of these words.
choices state.Statement = either (word.If ⇒ state.LastValue ∷ word.Ifnot ⇒ state.LastValue ∷ word.Case ⇒ state.LastValue ∷
    word.Repeat ⇒ state.Repeat ∷ word.Next ⇒ state.LineEnd ∷ word.Quit ⇒ state.LineEnd ∷ word.Return ⇒ state.MaybeValue ∷
    word.Abort ⇒ state.MaybeValue ∷ []) (outer in_action (word.LineEnd ⇒ state.End ∷ []))
choices state.ChainLine = tokens (word.Else ⇒ state.LineEnd ∷ word.Elseif ⇒ state.LastValue ∷ word.Elseifnot ⇒ state.LastValue ∷ [])
choices state.LoopEndLine = tokens (word.While ⇒ state.LastValue ∷ word.Until ⇒ state.LastValue ∷ [])
choices state.LastValue = expression (outer in_method (word.LineEnd ⇒ state.End ∷ []))
choices state.Repeat = either (word.LineEnd ⇒ state.End ∷ word.While ⇒ state.LastValue ∷ word.Until ⇒ state.LastValue ∷ [])
    (counting in_method (word.LineEnd ⇒ state.End ∷ []) (word.LineEnd ⇒ state.End ∷ word.From ⇒ state.From ∷ []))
choices state.From = expression (outer in_method (word.To ⇒ state.To ∷ []))
choices state.To = expression (outer in_method (word.Step ⇒ state.LastValue ∷ word.LineEnd ⇒ state.End ∷ []))
choices state.MaybeValue = either (word.LineEnd ⇒ state.End ∷ []) (outer in_method (word.LineEnd ⇒ state.End ∷ []))
choices state.CaseItem = either (word.Other ⇒ state.OtherColon ∷ [])
    (outer in_method (word.DotDot ⇒ state.CaseRange ∷ word.Comma ⇒ state.CaseTest ∷ word.Colon ⇒ state.End ∷ []))
choices state.CaseTest = expression (outer in_method (word.DotDot ⇒ state.CaseRange ∷ word.Comma ⇒ state.CaseTest ∷ word.Colon ⇒ state.End ∷ []))
choices state.CaseRange = expression (outer in_method (word.Comma ⇒ state.CaseTest ∷ word.Colon ⇒ state.End ∷ []))
choices state.OtherColon = tokens (word.Colon ⇒ state.End ∷ [])

-- where a line's words stand: in a declaration, in DAT or in a method
abbrev pub setting_at : LineState → Setting
setting_at state.ConHead = in_declaration
setting_at state.ConItem = in_declaration
setting_at state.ConName = in_declaration
setting_at state.ConValue = in_declaration
setting_at state.ConStep = in_declaration
setting_at state.ConMore = in_declaration
setting_at state.VarHead = in_declaration
setting_at state.VarLine = in_declaration
setting_at state.VarName = in_declaration
setting_at state.VarNamed = in_declaration
setting_at state.VarCount = in_declaration
setting_at state.VarMore = in_declaration
setting_at state.ObjHead = in_declaration
setting_at state.ObjLine = in_declaration
setting_at state.ObjNamed = in_declaration
setting_at state.ObjCount = in_declaration
setting_at state.ObjColon = in_declaration
setting_at state.ObjFile = in_declaration
setting_at state.DatHead = in_dat
setting_at state.DatLine = in_dat
setting_at state.DatLabel = in_dat
setting_at state.DatBody = in_dat
setting_at state.DatValue = in_dat
setting_at state.FirstData = in_dat
setting_at state.Data = in_dat
setting_at state.DataValue = in_dat
setting_at state.DataCount = in_dat
setting_at state.MoreData = in_dat
setting_at state.Conditioned = in_dat
setting_at state.Destination = in_dat
setting_at state.Source = in_dat
setting_at state.SourceValue = in_dat
setting_at state.MemoryDestination = in_dat
setting_at state.MemorySource = in_dat
setting_at state.MemorySourceValue = in_dat
setting_at state.OnlyDestination = in_dat
setting_at state.CallHash = in_dat
setting_at state.CallLabel = in_dat
setting_at state.CallLocal = in_dat
setting_at state.Effects = in_dat
setting_at state.MoreEffects = in_dat
setting_at state.Effect = in_dat
setting_at state.MoreFlags = in_dat
setting_at state.FlagEffect = in_dat
setting_at _ = in_method

-- internal: the arrows after the expression at a state
abbrev pub behind_in : Option Phrase → List Arrow
behind_in None = []
behind_in (Some h) = h.behind_other

abbrev pub behind_name_in : Option Phrase → List Arrow
behind_name_in None = []
behind_name_in (Some h) = h.behind_name
