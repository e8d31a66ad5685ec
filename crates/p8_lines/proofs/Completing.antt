-- From each state on a line can be completed, and after each expression some token may stand.
use Rattle.std.proofs.Common.{◌≡◌, ℕ, ◌<◌, length, map, List, [], ◌∷◌, Option, Some, None, Bool, true, false, refl, ap, ◌∙◌, subst, arith}
use Rattle.std.specs.Prelude.{IsTrue, if◌then◌else◌, unwrap_or}
use Rattle.p8_tree.specs.declared.places.Place.{Place}
use Rattle.p8_tree.specs.Expressions.{node, Number}
use Rattle.p8_lexer.specs.declared.word.Word.{Word}
use Rattle.p8_lexer.specs.declared.word.Word.TheVariants as word
use Rattle.p8_lexer.specs.declared.token.TokenKind.TheVariants as kind
use Rattle.p8_lexer.specs.Words.{spelling, symbols, capital, is_spelled}
use Rattle.p8_lexer.proofs.Searches.{read_back, empty_is_none}
use Rattle.p8_grammar.specs.Lexemes.{is_value}
use Rattle.p8_grammar.specs.Grammar.{operand, a_number, a_word, nothing}
use Rattle.p8_lexer.specs.Pieces.{Piece, tree}
use Rattle.p8_lines.specs.declared.sign.Sign.{Sign}
use Rattle.p8_lines.specs.declared.sign.Sign.TheVariants as sign
use Rattle.p8_lines.specs.declared.arrow.Arrow.{Arrow}
use Rattle.p8_lines.specs.declared.state.LineState.{LineState}
use Rattle.p8_lines.specs.declared.state.LineState.TheVariants as state
use Rattle.p8_lines.specs.Diagram.{Phrase, choices, behind_in}
use Rattle.p8_lines.specs.Tokens as tokens
use Rattle.p8_lines.specs.Tokens.{LineToken, string_length, piece}
use Rattle.p8_lines.specs.Lines.{Follows, here, is_name, behind, piece_in, Row, over, token, phrase}
use Rattle.p8_lines.proofs.Matching.{matches, does_match, target, follows}

-- tokens

abbrev somewhere : Place
somewhere = record { line = 0; column = 0 }

-- a token, with its word
record Spelled : Type 0 where
  token : LineToken
  word : Word
  is : tokens.word token ≡ word

abbrev line_end : Spelled
line_end = record { token = record { place = somewhere; text = []; kind = kind.LineEnd }; word = word.LineEnd; is = refl }

abbrev a_name : LineToken
a_name = record { place = somewhere; text = []; kind = kind.Name }

name_word : tokens.word a_name ≡ word.Name
name_word = ap (λ o. unwrap_or o word.Name) empty_is_none

abbrev name : Spelled
name = record { token = a_name; word = word.Name; is = name_word }

-- the string of one character
abbrev string : Spelled
string = record { token = record { place = somewhere; text = 34 ∷ 65 ∷ 34 ∷ []; kind = kind.Str }; word = word.Str; is = refl }

abbrev a_symbol : ℕ → LineToken
a_symbol n = record { place = somewhere; text = []; kind = kind.Symbol n }

right_parenthesis_word : tokens.word (a_symbol 59) ≡ word.RightParenthesis
unfolding symbols
right_parenthesis_word = refl

abbrev right_parenthesis : Spelled
right_parenthesis = record { token = a_symbol 59; word = word.RightParenthesis; is = right_parenthesis_word }

left_bracket_word : tokens.word (a_symbol 60) ≡ word.LeftBracket
unfolding symbols
left_bracket_word = refl

abbrev left_bracket : Spelled
left_bracket = record { token = a_symbol 60; word = word.LeftBracket; is = left_bracket_word }

right_bracket_word : tokens.word (a_symbol 61) ≡ word.RightBracket
unfolding symbols
right_bracket_word = refl

abbrev right_bracket : Spelled
right_bracket = record { token = a_symbol 61; word = word.RightBracket; is = right_bracket_word }

comma_word : tokens.word (a_symbol 62) ≡ word.Comma
unfolding symbols
comma_word = refl

abbrev comma : Spelled
comma = record { token = a_symbol 62; word = word.Comma; is = comma_word }

colon_word : tokens.word (a_symbol 63) ≡ word.Colon
unfolding symbols
colon_word = refl

abbrev colon : Spelled
colon = record { token = a_symbol 63; word = word.Colon; is = colon_word }

dot_dot_word : tokens.word (a_symbol 65) ≡ word.DotDot
unfolding symbols
dot_dot_word = refl

abbrev dot_dot : Spelled
dot_dot = record { token = a_symbol 65; word = word.DotDot; is = dot_dot_word }

hash_word : tokens.word (a_symbol 67) ≡ word.Hash
unfolding symbols
hash_word = refl

abbrev hash : Spelled
hash = record { token = a_symbol 67; word = word.Hash; is = hash_word }

abbrev a_word_of : Word → LineToken
a_word_of w = record { place = somewhere; text = spelling w; kind = kind.Name }

reserved_word : (w : Word) → 0 < length (map capital (spelling w)) → IsTrue (is_spelled w (map capital (spelling w))) → tokens.word (a_word_of w) ≡ w
reserved_word w n h = ap (λ o. unwrap_or o word.Name) (read_back w (map capital (spelling w)) h)

an_else_word : tokens.word (a_word_of word.Else) ≡ word.Else
an_else_word = reserved_word word.Else (omega arith) refl

abbrev an_else : Spelled
an_else = record { token = a_word_of word.Else; word = word.Else; is = an_else_word }

long_word : tokens.word (a_word_of word.LongSize) ≡ word.LongSize
long_word = reserved_word word.LongSize (omega arith) refl

abbrev long : Spelled
long = record { token = a_word_of word.LongSize; word = word.LongSize; is = long_word }

nop_word : tokens.word (a_word_of word.Nop) ≡ word.Nop
nop_word = reserved_word word.Nop (omega arith) refl

abbrev nop : Spelled
nop = record { token = a_word_of word.Nop; word = word.Nop; is = nop_word }

step_word : tokens.word (a_word_of word.Step) ≡ word.Step
step_word = reserved_word word.Step (omega arith) refl

abbrev step : Spelled
step = record { token = a_word_of word.Step; word = word.Step; is = step_word }

to_word : tokens.word (a_word_of word.To) ≡ word.To
to_word = reserved_word word.To (omega arith) refl

abbrev to : Spelled
to = record { token = a_word_of word.To; word = word.To; is = to_word }

while_word : tokens.word (a_word_of word.While) ≡ word.While
while_word = reserved_word word.While (omega arith) refl

abbrev while : Spelled
while = record { token = a_word_of word.While; word = word.While; is = while_word }

next_word : tokens.word (a_word_of word.Next) ≡ word.Next
next_word = reserved_word word.Next (omega arith) refl

abbrev next : Spelled
next = record { token = a_word_of word.Next; word = word.Next; is = next_word }

wz_word : tokens.word (a_word_of word.Wz) ≡ word.Wz
wz_word = reserved_word word.Wz (omega arith) refl

abbrev wz : Spelled
wz = record { token = a_word_of word.Wz; word = word.Wz; is = wz_word }

-- completions

record Completion (q : LineState) : Type 0 where
  row : List Piece
  tokens : List LineToken
  is : Row q row tokens

-- a token takes an arrow
takes : (l : List Arrow) (x : Spelled) (r : LineState) → target l x.word (string_length x.token) ≡ Some r → Follows l x.token r
takes l x r h = follows l x.token r (ap (λ w. target l w (string_length x.token)) x.is ∙ h)

by_token : {q r : LineState} (x : Spelled) → target (choices q).arrows x.word (string_length x.token) ≡ Some r → Completion r → Completion q
by_token {q = q} {r = r} x h y = record { row = piece_in q x.token ∷ y.row; tokens = x.token ∷ y.tokens; is = token (takes (choices q).arrows x r h) y.is }

abbrev zero_token : LineToken
zero_token = record { place = somewhere; text = []; kind = kind.Number 0 }

-- an expression stands there, and a token after it
abbrev takes_value : Option Phrase → Bool
takes_value None = false
takes_value (Some h) = is_value h.setting

by_phrase : {q r : LineState} (x : Spelled) → IsTrue (takes_value (choices q).phrase) → target (behind_in (choices q).phrase) x.word (string_length x.token) ≡ Some r → Completion r → Completion q
by_phrase {q = q} {r = r} x some h y = go (choices q).phrase refl some h
  where
    go : (o : Option Phrase) → (choices q).phrase ≡ o → IsTrue (takes_value o) → target (behind_in o) x.word (string_length x.token) ≡ Some r → Completion q
    go None e s h = absurd cc
    go (Some p) e s h = record {
      row = tree (node somewhere (Number 0)) somewhere ∷ piece x.token ∷ y.row;
      tokens = zero_token ∷ x.token ∷ y.tokens;
      is = phrase [] e (operand (a_number s) (a_word {ts = []} nothing)) (takes p.behind_other x r h) y.is;
    }

-- the states to which others lead

from_end : Completion state.End
from_end = record { row = []; tokens = []; is = over }

from_line_end : Completion state.LineEnd
from_line_end = by_token line_end refl from_end

from_con_name : Completion state.ConName
from_con_name = by_token line_end refl from_end

from_con_more : Completion state.ConMore
from_con_more = by_token line_end refl from_end

from_var_named : Completion state.VarNamed
from_var_named = by_token line_end refl from_end

from_var_more : Completion state.VarMore
from_var_more = by_token line_end refl from_end

from_obj_file : Completion state.ObjFile
from_obj_file = by_token string refl from_line_end

from_method_named : Completion state.MethodNamed
from_method_named = by_token line_end refl from_end

from_parameters : Completion state.Parameters
from_parameters = by_token line_end refl from_end

from_result_named : Completion state.ResultNamed
from_result_named = by_token line_end refl from_end

from_local_named : Completion state.LocalNamed
from_local_named = by_token line_end refl from_end

from_more_locals : Completion state.MoreLocals
from_more_locals = by_token line_end refl from_end

from_dat_body : Completion state.DatBody
from_dat_body = by_token line_end refl from_end

from_more_data : Completion state.MoreData
from_more_data = by_token line_end refl from_end

from_source : Completion state.Source
from_source = by_phrase line_end refl refl from_end

from_memory_source : Completion state.MemorySource
from_memory_source = by_phrase line_end refl refl from_end

from_effects : Completion state.Effects
from_effects = by_token line_end refl from_end

from_more_effects : Completion state.MoreEffects
from_more_effects = by_token line_end refl from_end

from_more_flags : Completion state.MoreFlags
from_more_flags = by_token line_end refl from_end

from_test : Completion state.LastValue
from_test = by_phrase line_end refl refl from_end

from_to : Completion state.To
from_to = by_phrase line_end refl refl from_end

from_var_name : Completion state.VarName
from_var_name = by_token name refl from_var_named

from_obj_named : Completion state.ObjNamed
from_obj_named = by_token colon refl from_obj_file

from_obj_colon : Completion state.ObjColon
from_obj_colon = by_token colon refl from_obj_file

from_more_parameters : Completion state.MoreParameters
from_more_parameters = by_token right_parenthesis refl from_parameters

from_call_label : Completion state.CallLabel
from_call_label = by_token name refl from_effects

completed : (q : LineState) → Completion q
completed state.End = from_end
completed state.LineEnd = from_line_end
completed state.ConHead = by_token line_end refl from_end
completed state.ConItem = by_token name refl from_con_name
completed state.ConName = from_con_name
completed state.ConValue = by_phrase line_end refl refl from_end
completed state.ConStep = by_phrase right_bracket refl refl from_con_more
completed state.ConMore = from_con_more
completed state.VarHead = by_token line_end refl from_end
completed state.VarLine = by_token long refl from_var_name
completed state.VarName = from_var_name
completed state.VarNamed = from_var_named
completed state.VarCount = by_phrase right_bracket refl refl from_var_more
completed state.VarMore = from_var_more
completed state.ObjHead = by_token line_end refl from_end
completed state.ObjLine = by_token name refl from_obj_named
completed state.ObjNamed = from_obj_named
completed state.ObjCount = by_phrase right_bracket refl refl from_obj_colon
completed state.ObjColon = from_obj_colon
completed state.ObjFile = from_obj_file
completed state.MethodName = by_token name refl from_method_named
completed state.MethodNamed = from_method_named
completed state.Parameter = by_token name refl from_more_parameters
completed state.MoreParameters = from_more_parameters
completed state.Parameters = from_parameters
completed state.ResultName = by_token name refl from_result_named
completed state.ResultNamed = from_result_named
completed state.Local = by_token name refl from_local_named
completed state.LocalNamed = from_local_named
completed state.LocalCount = by_phrase right_bracket refl refl from_more_locals
completed state.MoreLocals = from_more_locals
completed state.DatHead = by_token line_end refl from_end
completed state.DatLine = by_token name refl from_dat_body
completed state.DatLabel = by_token name refl from_dat_body
completed state.DatBody = from_dat_body
completed state.DatValue = by_token line_end refl from_end
completed state.FirstData = by_token line_end refl from_end
completed state.Data = by_phrase line_end refl refl from_end
completed state.DataValue = by_phrase line_end refl refl from_end
completed state.DataCount = by_phrase right_bracket refl refl from_more_data
completed state.MoreData = from_more_data
completed state.Conditioned = by_token nop refl from_line_end
completed state.Destination = by_phrase comma refl refl from_source
completed state.Source = from_source
completed state.SourceValue = by_phrase line_end refl refl from_end
completed state.MemoryDestination = by_phrase comma refl refl from_memory_source
completed state.MemorySource = from_memory_source
completed state.MemorySourceValue = by_phrase line_end refl refl from_end
completed state.OnlyDestination = by_phrase line_end refl refl from_end
completed state.CallHash = by_token hash refl from_call_label
completed state.CallLabel = from_call_label
completed state.CallLocal = by_token name refl from_effects
completed state.Effects = from_effects
completed state.MoreEffects = from_more_effects
completed state.Effect = by_token wz refl from_more_effects
completed state.MoreFlags = from_more_flags
completed state.FlagEffect = by_token wz refl from_more_flags
completed state.Statement = by_token next refl from_line_end
completed state.ChainLine = by_token an_else refl from_line_end
completed state.LoopEndLine = by_token while refl from_test
completed state.LastValue = from_test
completed state.Repeat = by_token line_end refl from_end
completed state.From = by_phrase to refl refl from_to
completed state.To = from_to
completed state.MaybeValue = by_token line_end refl from_end
completed state.CaseItem = by_phrase colon refl refl from_end
completed state.CaseTest = by_phrase colon refl refl from_end
completed state.CaseRange = by_phrase colon refl refl from_end
completed state.OtherColon = by_token colon refl from_end

pub completion : (q : LineState) → (row : List Piece) × (ts : List LineToken) × Row q row ts
completion q = let x = completed q in (x.row, x.tokens, x.is)

-- what may stand after an expression

abbrev token_of_word : Word → Option Spelled
token_of_word word.LineEnd = Some line_end
token_of_word word.Comma = Some comma
token_of_word word.LeftBracket = Some left_bracket
token_of_word word.RightBracket = Some right_bracket
token_of_word word.DotDot = Some dot_dot
token_of_word word.To = Some to
token_of_word word.Step = Some step
token_of_word w = None

-- a token on an arrow with this sign
abbrev token_on : Sign → Option Spelled
token_on (sign.Word w) = token_of_word w
token_on sign.Flag = Some wz
token_on x = None

abbrev is_on : Arrow → Option Spelled → Bool
is_on a None = false
is_on a (Some x) = matches a.sign x.word (string_length x.token)

abbrev can_follow : List Arrow → Bool
can_follow [] = false
can_follow (a ∷ others) = is_on a (token_on a.sign)

abbrev Follower : List Arrow → Type 0
Follower l = (t : LineToken) × (r : LineState) × Follows l t r

followed : (l : List Arrow) → IsTrue (can_follow l) → Follower l
followed [] h = absurd cc
followed (a ∷ others) h = go (token_on a.sign) h
  where
    go : (o : Option Spelled) → IsTrue (is_on a o) → Follower (a ∷ others)
    go None h = absurd cc
    go (Some x) h = (x.token, a.to, here (does_match a.sign (tokens.word x.token) (string_length x.token) (ap (λ w. matches a.sign w (string_length x.token)) x.is ∙ h)))

abbrev both_follow : Option Phrase → Bool
both_follow None = true
both_follow (Some h) = if can_follow h.behind_name then can_follow h.behind_other else false

states_followed : (q : LineState) → IsTrue (both_follow (choices q).phrase)
states_followed state.End = refl
states_followed q = refl

pub follower : (q : LineState) (h : Phrase) → (choices q).phrase ≡ Some h → (us : List LineToken) → (t : LineToken) × (r : LineState) × Follows (behind h us) t r
follower q h e us = go (can_follow h.behind_name) refl (is_name us) (subst (λ o. IsTrue (both_follow o)) e (states_followed q))
  where
    go : (b : Bool) → can_follow h.behind_name ≡ b → (n : Bool) → IsTrue (if b then can_follow h.behind_other else false) → Follower (if n then h.behind_name else h.behind_other)
    go true e true y = followed h.behind_name e
    go true e false y = followed h.behind_other y
    go false e n y = absurd cc
