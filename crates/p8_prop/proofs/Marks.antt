-- Which words stand outside brackets in no expression, and which piece a token is.
use Rattle.std.proofs.Common.{◌≡◌, ◌∙◌, sym, ap, subst, refl, ℕ, Bool, true, false, List}
use Rattle.std.specs.Prelude.{IsTrue}
use Rattle.p8_lexer.specs.declared.word.Word.{Word}
use Rattle.p8_lexer.specs.declared.word.Word.TheVariants as words
use Rattle.p8_lexer.specs.Pieces as pieces
use Rattle.p8_grammar.specs.Lexemes.{Setting, in_method, in_declaration, in_action, is_dat, colon, Lexeme, name, string, mark}
use Rattle.p8_expr.specs.Words.{lexeme_of_word}
use Rattle.p8_lines.specs.Tokens.{LineToken, word, lexeme, piece_from, piece}
use Rattle.p8_lines.proofs.Lexemes.{IsOther, the_word, the_reserved, other_word, comma_lexeme, colon_lexeme, range_lexeme, right_bracket_lexeme}
use Rattle.p8_statements.specs.declared.role.Role.{Role}
use Rattle.p8_statements.specs.declared.role.Role.TheVariants as role
use Rattle.p8_statements.specs.Roles.{role_of}
use Rattle.p8_blocks.proofs.Pieces.{word_piece}
use Rattle.p8_prop.proofs.Barred.{Bars}

-- ---- pieces

-- a token is a name, a string or its word
pub data Sort (t : LineToken) : Type 0 where
  a_name : (n : List ℕ) → lexeme t ≡ name n → piece t ≡ pieces.name n t.place → Sort t
  a_text : (x : List ℕ) → lexeme t ≡ string x → piece t ≡ pieces.text x t.place → Sort t
  a_word : piece t ≡ pieces.word (word t) t.place → Sort t

pub sort : (t : LineToken) → Sort t
sort t = go (lexeme t) refl
  where
    by-word : (x : Lexeme) → lexeme t ≡ x → piece_from x (word t) t.place ≡ pieces.word (word t) t.place → Sort t
    by-word x e h = a_word (ap (λ (x : Lexeme). piece_from x (word t) t.place) e ∙ h)

    go : (x : Lexeme) → lexeme t ≡ x → Sort t
    go (name n) e = a_name n e (ap (λ (x : Lexeme). piece_from x (word t) t.place) e)
    go (string x) e = a_text x e (ap (λ (x : Lexeme). piece_from x (word t) t.place) e)
    go x e = by-word x e refl

-- ---- words

pub other-bars : (s : Setting) {x : Lexeme} → IsOther x → Bars s x
other-bars s the_word = refl
other-bars s (the_reserved n) = refl

bars-as : (s : Setting) (t : LineToken) {x : Lexeme} → lexeme t ≡ x → Bars s x → Bars s (lexeme t)
bars-as s t e b = subst (λ (x : Lexeme). Bars s x) (sym e) b

-- what stands behind an expression in a declaration and in DAT
abbrev pub closes : Word → Bool
closes words.LineEnd = true
closes words.Comma = true
closes words.RightBracket = true
closes w = false

pub closes-bars : (s : Setting) (t : LineToken) (w : Word) → word t ≡ w → IsTrue (closes w) → Bars s (lexeme t)
unfolding lexeme_of_word
closes-bars s t words.LineEnd e h = other-bars s (other_word t words.LineEnd refl refl e)
closes-bars s t words.Comma e h = bars-as s t (comma_lexeme t e) refl
closes-bars s t words.RightBracket e h = bars-as s t (right_bracket_lexeme t e) refl
closes-bars s t w e h = absurd cc

-- what stands behind an expression in a method, or begins a line there
abbrev pub is_role : Role → Bool
is_role role.Nothing = false
is_role r = true

colon-bars : (s : Setting) → is_dat s ≡ false → Bars s (mark colon)
colon-bars in_method d = refl
colon-bars in_declaration d = refl
colon-bars in_action d = refl
colon-bars s d = absurd cc

pub role-bars : (s : Setting) (t : LineToken) (w : Word) → is_dat s ≡ false → word t ≡ w → IsTrue (is_role (role_of w)) → Bars s (lexeme t)
unfolding role_of lexeme_of_word
role-bars s t words.If d e h = other-bars s (other_word t words.If refl refl e)
role-bars s t words.Ifnot d e h = other-bars s (other_word t words.Ifnot refl refl e)
role-bars s t words.Elseif d e h = other-bars s (other_word t words.Elseif refl refl e)
role-bars s t words.Elseifnot d e h = other-bars s (other_word t words.Elseifnot refl refl e)
role-bars s t words.Else d e h = other-bars s (other_word t words.Else refl refl e)
role-bars s t words.Case d e h = other-bars s (other_word t words.Case refl refl e)
role-bars s t words.Other d e h = other-bars s (other_word t words.Other refl refl e)
role-bars s t words.Repeat d e h = other-bars s (other_word t words.Repeat refl refl e)
role-bars s t words.While d e h = other-bars s (other_word t words.While refl refl e)
role-bars s t words.Until d e h = other-bars s (other_word t words.Until refl refl e)
role-bars s t words.Next d e h = other-bars s (other_word t words.Next refl refl e)
role-bars s t words.Quit d e h = other-bars s (other_word t words.Quit refl refl e)
role-bars s t words.Return d e h = other-bars s (other_word t words.Return refl refl e)
role-bars s t words.Abort d e h = other-bars s (other_word t words.Abort refl refl e)
role-bars s t words.From d e h = other-bars s (other_word t words.From refl refl e)
role-bars s t words.To d e h = other-bars s (other_word t words.To refl refl e)
role-bars s t words.Step d e h = other-bars s (other_word t words.Step refl refl e)
role-bars s t words.Comma d e h = bars-as s t (comma_lexeme t e) refl
role-bars s t words.Colon d e h = bars-as s t (colon_lexeme t e) (colon-bars s d)
role-bars s t words.DotDot d e h = bars-as s t (range_lexeme t e) refl
role-bars s t words.LineEnd d e h = other-bars s (other_word t words.LineEnd refl refl e)
role-bars s t w d e h = absurd cc

-- the words of blocks
abbrev pub is_block : Word → Bool
is_block words.Con = true
is_block words.Var = true
is_block words.Obj = true
is_block words.Dat = true
is_block words.Pub = true
is_block words.Pri = true
is_block w = false

pub block-bars : (s : Setting) (t : LineToken) (w : Word) → word t ≡ w → IsTrue (is_block w) → Bars s (lexeme t)
unfolding lexeme_of_word
block-bars s t words.Con e h = other-bars s (other_word t words.Con refl refl e)
block-bars s t words.Var e h = other-bars s (other_word t words.Var refl refl e)
block-bars s t words.Obj e h = other-bars s (other_word t words.Obj refl refl e)
block-bars s t words.Dat e h = other-bars s (other_word t words.Dat refl refl e)
block-bars s t words.Pub e h = other-bars s (other_word t words.Pub refl refl e)
block-bars s t words.Pri e h = other-bars s (other_word t words.Pri refl refl e)
block-bars s t w e h = absurd cc

pub block-piece : (t : LineToken) (w : Word) → word t ≡ w → IsTrue (is_block w) → piece t ≡ pieces.word w t.place
block-piece t words.Con e h = word_piece t words.Con refl e
block-piece t words.Var e h = word_piece t words.Var refl e
block-piece t words.Obj e h = word_piece t words.Obj refl e
block-piece t words.Dat e h = word_piece t words.Dat refl e
block-piece t words.Pub e h = word_piece t words.Pub refl e
block-piece t words.Pri e h = word_piece t words.Pri refl e
block-piece t w e h = absurd cc
