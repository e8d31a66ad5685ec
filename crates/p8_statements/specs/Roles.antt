-- What each word is to a statement (Propeller Manual v1.2, "Spin Language Reference": "Operators" and the
-- entries of the words).
use Rattle.std.specs.Prelude.{Bool, true, false}
use Rattle.p8_lexer.specs.declared.word.Word.{Word}
use Rattle.p8_lexer.specs.declared.word.Word.TheVariants as word
use Rattle.p8_statements.specs.declared.role.Role.{Role}
use Rattle.p8_statements.specs.declared.role.Role.TheVariants as role

unfoldable pub role_of : Word → Role
-- first words of lines
role_of word.If = role.If false
role_of word.Ifnot = role.If true
role_of word.Elseif = role.ElseIf false
role_of word.Elseifnot = role.ElseIf true
role_of word.Else = role.Else
role_of word.Case = role.Case
role_of word.Other = role.Other
role_of word.Repeat = role.Repeat
role_of word.While = role.End false
role_of word.Until = role.End true
role_of word.Next = role.Next
role_of word.Quit = role.Quit
role_of word.Return = role.Return
role_of word.Abort = role.Abort
-- words of a counting loop
role_of word.From = role.From
role_of word.To = role.To
role_of word.Step = role.Step
-- marks, and the end of the line
role_of word.Comma = role.Comma
role_of word.Colon = role.Colon
role_of word.DotDot = role.DotDot
role_of word.LineEnd = role.LineEnd
-- what begins no part of a statement's own
role_of _ = role.Nothing

-- `,`
abbrev pub is_comma : Role → Bool
is_comma role.Comma = true
is_comma _ = false

-- `..`
abbrev pub is_dot_dot : Role → Bool
is_dot_dot role.DotDot = true
is_dot_dot _ = false

-- `:`
abbrev pub is_colon : Role → Bool
is_colon role.Colon = true
is_colon _ = false

-- FROM
abbrev pub is_from : Role → Bool
is_from role.From = true
is_from _ = false

-- TO
abbrev pub is_to : Role → Bool
is_to role.To = true
is_to _ = false

-- STEP
abbrev pub is_step : Role → Bool
is_step role.Step = true
is_step _ = false

-- the end of the line
abbrev pub is_line_end : Role → Bool
is_line_end role.LineEnd = true
is_line_end _ = false
