-- What a token is to an expression, by its word.
use Rattle.std.proofs.Common.{◌≡◌, ℕ, zero, suc, List, [], ◌∷◌, map, Option, Some, None, Bool, true, false, refl, sym, ap, ◌∙◌, subst}
use Rattle.std.specs.Prelude.{IsTrue, if◌then◌else◌, not, slice_get, unwrap_or}
use Rattle.std.specs.List.{list_all}
use Rattle.p8_lexer.specs.declared.word.Word.{Word}
use Rattle.p8_lexer.specs.declared.word.Word.TheVariants as word
use Rattle.p8_lexer.specs.declared.token.TokenKind.{TokenKind}
use Rattle.p8_lexer.specs.declared.token.TokenKind.TheVariants as kind
use Rattle.p8_lexer.specs.Words.{capital, symbols, reserved_words, every_word, is_spelled, first_spelled, word_spelled, word_of_kind}
use Rattle.p8_lexer.proofs.Symbols.{passes_at}
use Rattle.p8_grammar.specs.Lexemes.{Mark, left_bracket, right_bracket, right_parenthesis, comma, colon, dot_dot, hash, Lexeme, name, string, mark, size, method_result, other, reserved, name_in}
use Rattle.p8_expr.specs.Words.{between_quotes, lexeme_by_word, reserved_as, lexeme_by_kind, lexeme_of_word}
use Rattle.p8_lines.specs.Tokens as tokens
use Rattle.p8_lines.specs.Tokens.{LineToken, lexeme}
use Rattle.p8_lines.specs.Signs.{is_size, is_flag, is_write, is_label}

-- the words by which alone a token is known
abbrev pub is_plain : Word → Bool
is_plain word.Name = false
is_plain word.Number = false
is_plain word.Str = false
is_plain w = true

by_word : (text : List ℕ) (w : Word) → IsTrue (is_plain w) → lexeme_by_word text w ≡ lexeme_of_word w
by_word text word.Name h = absurd cc
by_word text w h = refl

-- what holds of what a word is, and of a reserved word that is it, holds of a token with this word
pub by_kind : (P : Lexeme → Type 0) (t : LineToken) (w : Word) (x : Lexeme) → IsTrue (is_plain w) → lexeme_of_word w ≡ x → P x → ((n : List ℕ) → P (reserved_as n x)) → tokens.word t ≡ w → P (lexeme t)
by_kind P t w x y is plain kept h = go t.kind h
  where
    wrong : (v : Word) → v ≡ w → is_plain v ≡ false → ⊥
    wrong v e n = let z = ap is_plain e ∙ y in let z' = sym n ∙ z in cc

    so : (v : Word) → v ≡ w → lexeme_by_word t.text v ≡ x
    so v h = ap (lexeme_by_word t.text) h ∙ by_word t.text w y ∙ is

    go : (k : TokenKind) → word_of_kind t.text k ≡ w → P (lexeme_by_kind t.text (word_of_kind t.text k) k)
    go kind.Name h = subst (λ z. P (reserved_as (map capital t.text) z)) (sym (so (word_of_kind t.text kind.Name) h)) (kept (map capital t.text))
    go (kind.Number n) h = absurd (wrong word.Number h refl)
    go kind.Float h = subst P (sym (so word.FloatNumber h)) plain
    go kind.Str h = absurd (wrong word.Str h refl)
    go (kind.Symbol n) h = subst P (sym (so (word_of_kind t.text (kind.Symbol n)) h)) plain
    go kind.LineEnd h = subst P (sym (so word.LineEnd h)) plain

mark_lexeme : (t : LineToken) (w : Word) (m : Mark) → IsTrue (is_plain w) → lexeme_of_word w ≡ mark m → tokens.word t ≡ w → lexeme t ≡ mark m
mark_lexeme t w m y is h = by_kind (λ x. x ≡ mark m) t w (mark m) y is refl (λ n. refl) h

-- a word, or a reserved word that is it
pub data IsLike (x : Lexeme) : Lexeme → Type 0 where
  the_word : IsLike x x
  the_reserved : (n : List ℕ) → IsLike x (reserved n x)

-- what stands in no expression
abbrev pub IsOther : Lexeme → Type 0
IsOther x = IsLike other x

pub other_word : (t : LineToken) (w : Word) → IsTrue (is_plain w) → lexeme_of_word w ≡ other → tokens.word t ≡ w → IsOther (lexeme t)
other_word t w y is h = by_kind (IsLike other) t w other y is the_word the_reserved h

pub comma_lexeme : (t : LineToken) → tokens.word t ≡ word.Comma → lexeme t ≡ mark comma
unfolding lexeme_of_word
comma_lexeme t h = mark_lexeme t word.Comma comma refl refl h

pub colon_lexeme : (t : LineToken) → tokens.word t ≡ word.Colon → lexeme t ≡ mark colon
unfolding lexeme_of_word
colon_lexeme t h = mark_lexeme t word.Colon colon refl refl h

pub range_lexeme : (t : LineToken) → tokens.word t ≡ word.DotDot → lexeme t ≡ mark dot_dot
unfolding lexeme_of_word
range_lexeme t h = mark_lexeme t word.DotDot dot_dot refl refl h

pub left_bracket_lexeme : (t : LineToken) → tokens.word t ≡ word.LeftBracket → lexeme t ≡ mark left_bracket
unfolding lexeme_of_word
left_bracket_lexeme t h = mark_lexeme t word.LeftBracket left_bracket refl refl h

pub right_bracket_lexeme : (t : LineToken) → tokens.word t ≡ word.RightBracket → lexeme t ≡ mark right_bracket
unfolding lexeme_of_word
right_bracket_lexeme t h = mark_lexeme t word.RightBracket right_bracket refl refl h

pub right_parenthesis_lexeme : (t : LineToken) → tokens.word t ≡ word.RightParenthesis → lexeme t ≡ mark right_parenthesis
unfolding lexeme_of_word
right_parenthesis_lexeme t h = mark_lexeme t word.RightParenthesis right_parenthesis refl refl h

pub hash_lexeme : (t : LineToken) → tokens.word t ≡ word.Hash → lexeme t ≡ mark hash
unfolding lexeme_of_word
hash_lexeme t h = mark_lexeme t word.Hash hash refl refl h

pub line_end_lexeme : (t : LineToken) → tokens.word t ≡ word.LineEnd → IsOther (lexeme t)
unfolding lexeme_of_word
line_end_lexeme t h = other_word t word.LineEnd refl refl h

pub while_lexeme : (t : LineToken) → tokens.word t ≡ word.While → IsOther (lexeme t)
unfolding lexeme_of_word
while_lexeme t h = other_word t word.While refl refl h

pub until_lexeme : (t : LineToken) → tokens.word t ≡ word.Until → IsOther (lexeme t)
unfolding lexeme_of_word
until_lexeme t h = other_word t word.Until refl refl h

pub other_lexeme : (t : LineToken) → tokens.word t ≡ word.Other → IsOther (lexeme t)
unfolding lexeme_of_word
other_lexeme t h = other_word t word.Other refl refl h

pub if_lexeme : (t : LineToken) → tokens.word t ≡ word.If → IsOther (lexeme t)
unfolding lexeme_of_word
if_lexeme t h = other_word t word.If refl refl h

pub ifnot_lexeme : (t : LineToken) → tokens.word t ≡ word.Ifnot → IsOther (lexeme t)
unfolding lexeme_of_word
ifnot_lexeme t h = other_word t word.Ifnot refl refl h

pub case_lexeme : (t : LineToken) → tokens.word t ≡ word.Case → IsOther (lexeme t)
unfolding lexeme_of_word
case_lexeme t h = other_word t word.Case refl refl h

pub repeat_lexeme : (t : LineToken) → tokens.word t ≡ word.Repeat → IsOther (lexeme t)
unfolding lexeme_of_word
repeat_lexeme t h = other_word t word.Repeat refl refl h

pub next_lexeme : (t : LineToken) → tokens.word t ≡ word.Next → IsOther (lexeme t)
unfolding lexeme_of_word
next_lexeme t h = other_word t word.Next refl refl h

pub quit_lexeme : (t : LineToken) → tokens.word t ≡ word.Quit → IsOther (lexeme t)
unfolding lexeme_of_word
quit_lexeme t h = other_word t word.Quit refl refl h

pub return_lexeme : (t : LineToken) → tokens.word t ≡ word.Return → IsOther (lexeme t)
unfolding lexeme_of_word
return_lexeme t h = other_word t word.Return refl refl h

pub abort_lexeme : (t : LineToken) → tokens.word t ≡ word.Abort → IsOther (lexeme t)
unfolding lexeme_of_word
abort_lexeme t h = other_word t word.Abort refl refl h

pub from_lexeme : (t : LineToken) → tokens.word t ≡ word.From → IsOther (lexeme t)
unfolding lexeme_of_word
from_lexeme t h = other_word t word.From refl refl h

pub to_lexeme : (t : LineToken) → tokens.word t ≡ word.To → IsOther (lexeme t)
unfolding lexeme_of_word
to_lexeme t h = other_word t word.To refl refl h

pub step_lexeme : (t : LineToken) → tokens.word t ≡ word.Step → IsOther (lexeme t)
unfolding lexeme_of_word
step_lexeme t h = other_word t word.Step refl refl h

pub result_lexeme : (t : LineToken) → tokens.word t ≡ word.Result → IsLike method_result (lexeme t)
unfolding lexeme_of_word
result_lexeme t h = by_kind (IsLike method_result) t word.Result method_result refl refl the_word the_reserved h

pub size_lexeme : (t : LineToken) → IsTrue (is_size (tokens.word t)) → (z : ℕ) × IsLike (size z) (lexeme t)
unfolding lexeme_of_word
size_lexeme t h = go (tokens.word t) refl h
  where
    of_size : (w : Word) (z : ℕ) → IsTrue (is_plain w) → lexeme_of_word w ≡ size z → tokens.word t ≡ w → (z : ℕ) × IsLike (size z) (lexeme t)
    of_size w z y is e = (z, by_kind (IsLike (size z)) t w (size z) y is the_word the_reserved e)

    go : (w : Word) → tokens.word t ≡ w → IsTrue (is_size w) → (z : ℕ) × IsLike (size z) (lexeme t)
    go word.ByteSize e h = of_size word.ByteSize 1 refl refl e
    go word.WordSize e h = of_size word.WordSize 2 refl refl e
    go word.LongSize e h = of_size word.LongSize 4 refl refl e
    go w e h = absurd cc

pub flag_lexeme : (t : LineToken) → IsTrue (is_flag (tokens.word t)) → IsOther (lexeme t)
unfolding lexeme_of_word
flag_lexeme t h = go (tokens.word t) refl h
  where
    go : (w : Word) → tokens.word t ≡ w → IsTrue (is_flag w) → IsOther (lexeme t)
    go word.Wz e h = other_word t word.Wz refl refl e
    go word.Wc e h = other_word t word.Wc refl refl e
    go w e h = absurd cc

pub write_lexeme : (t : LineToken) → IsTrue (is_write (tokens.word t)) → IsOther (lexeme t)
unfolding lexeme_of_word
write_lexeme t h = go (tokens.word t) refl h
  where
    go : (w : Word) → tokens.word t ≡ w → IsTrue (is_write w) → IsOther (lexeme t)
    go word.Wr e h = other_word t word.Wr refl refl e
    go word.Nr e h = other_word t word.Nr refl refl e
    go w e h = absurd cc

-- neither a symbol nor a reserved word is a string or a number
abbrev is_value : Word → Bool
is_value word.Number = true
is_value word.Str = true
is_value w = false

abbrev without_values : List Word → Bool
without_values [] = true
without_values (w ∷ ws) = if is_value w then false else without_values ws

not_value : (w : Word) (ws : List Word) → IsTrue (without_values (w ∷ ws)) → is_value w ≡ false
not_value w ws h = go (is_value w) h
  where
    go : (b : Bool) → IsTrue (if b then false else without_values ws) → b ≡ false
    go true h = absurd cc
    go false h = refl

others_without : (w : Word) (ws : List Word) → IsTrue (without_values (w ∷ ws)) → IsTrue (without_values ws)
others_without w ws h = go (is_value w) h
  where
    go : (b : Bool) → IsTrue (if b then false else without_values ws) → IsTrue (without_values ws)
    go true h = absurd cc
    go false h = h

got : (ws : List Word) (n : ℕ) → IsTrue (without_values ws) → is_value (unwrap_or (slice_get ws n) word.Name) ≡ false
got [] n h = refl
got (w ∷ ws) zero h = not_value w ws h
got (w ∷ ws) (suc n) h = got ws n (others_without w ws h)

spelled : (text : List ℕ) (ws : List Word) → IsTrue (without_values ws) → is_value (unwrap_or (first_spelled text ws) word.Name) ≡ false
spelled text [] h = refl
spelled text (w ∷ ws) h = go (is_spelled w text) (spelled text ws (others_without w ws h))
  where
    go : (b : Bool) → is_value (unwrap_or (first_spelled text ws) word.Name) ≡ false → is_value (unwrap_or (if b then Some w else first_spelled text ws) word.Name) ≡ false
    go true z = not_value w ws h
    go false z = z

no_symbol : IsTrue (without_values symbols)
unfolding symbols
no_symbol = refl

no_word : IsTrue (without_values every_word)
unfolding every_word symbols reserved_words
no_word = refl

pub string_lexeme : (t : LineToken) → tokens.word t ≡ word.Str → lexeme t ≡ string (between_quotes t.text)
string_lexeme t h = go t.kind h
  where
    wrong : (w : Word) → w ≡ word.Str → is_value w ≡ false → ⊥
    wrong w e n = let z = sym n ∙ ap is_value e in cc

    go : (k : TokenKind) → word_of_kind t.text k ≡ word.Str → lexeme_by_kind t.text (word_of_kind t.text k) k ≡ string (between_quotes t.text)
    go kind.Name h = absurd (wrong (unwrap_or (word_spelled t.text) word.Name) h (spelled (map capital t.text) every_word no_word))
    go (kind.Number n) h = absurd cc
    go kind.Float h = absurd cc
    go kind.Str h = refl
    go (kind.Symbol n) h = absurd (wrong (unwrap_or (slice_get symbols n) word.Name) h (got symbols n no_symbol))
    go kind.LineEnd h = absurd cc

pub name_lexeme : (t : LineToken) → tokens.word t ≡ word.Name → lexeme t ≡ name (map capital t.text)
name_lexeme t h = go t.kind h
  where
    go : (k : TokenKind) → word_of_kind t.text k ≡ word.Name → lexeme_by_kind t.text (word_of_kind t.text k) k ≡ name (map capital t.text)
    go kind.Name h = ap (λ w. reserved_as (map capital t.text) (lexeme_by_word t.text w)) h
    go (kind.Number n) h = absurd cc
    go kind.Float h = absurd cc
    go kind.Str h = absurd cc
    go (kind.Symbol n) h = ap (lexeme_by_word t.text) h
    go kind.LineEnd h = absurd cc

-- what may stand behind a local label's colon is a name, or a reserved word with its characters

abbrev is_named : Option (List ℕ) → Bool
is_named None = false
is_named (Some n) = true

there : (o : Option (List ℕ)) → IsTrue (is_named o) → (n : List ℕ) × (o ≡ Some n)
there None h = absurd cc
there (Some n) h = (n, refl)

labels_named : (n text : List ℕ) (w : Word) → IsTrue (if is_label w then is_named (name_in (reserved_as n (lexeme_by_word text w))) else true)
unfolding lexeme_of_word
labels_named n text word.Name = refl
labels_named n text w = refl

no_symbol_label : list_all (λ w. not (is_label w)) symbols ≡ true
unfolding symbols
no_symbol_label = refl

no_value_label : (w : Word) → IsTrue (is_label w) → is_label w ≡ false → ⊥
no_value_label w h n = let z = sym h ∙ n in cc

isnt_label : (b : Bool) → not b ≡ true → b ≡ false
isnt_label true h = absurd cc
isnt_label false h = refl

pub named_label : (t : LineToken) → IsTrue (is_label (tokens.word t)) → (n : List ℕ) × (name_in (lexeme t) ≡ Some n)
named_label t h = go t.kind h
  where
    by_symbol : (n : ℕ) (o : Option Word) → slice_get symbols n ≡ o → IsTrue (is_label (unwrap_or o word.Name)) → (m : List ℕ) × (name_in (lexeme_by_word t.text (unwrap_or o word.Name)) ≡ Some m)
    by_symbol n None e h = (map capital t.text, refl)
    by_symbol n (Some w) e h = absurd (no_value_label w h (isnt_label (is_label w) (passes_at (λ w. not (is_label w)) symbols no_symbol_label n w e)))

    go : (k : TokenKind) → IsTrue (is_label (word_of_kind t.text k)) → (m : List ℕ) × (name_in (lexeme_by_kind t.text (word_of_kind t.text k) k) ≡ Some m)
    go kind.Name h =
        let w = word_of_kind t.text kind.Name in
        there (name_in (reserved_as (map capital t.text) (lexeme_by_word t.text w))) (subst (λ b. IsTrue (if b then is_named (name_in (reserved_as (map capital t.text) (lexeme_by_word t.text w))) else true)) h (labels_named (map capital t.text) t.text w))
    go (kind.Number n) h = absurd (no_value_label word.Number h refl)
    go kind.Float h = absurd (no_value_label word.FloatNumber h refl)
    go kind.Str h = absurd (no_value_label word.Str h refl)
    go (kind.Symbol n) h = by_symbol n (slice_get symbols n) refl h
    go kind.LineEnd h = absurd (no_value_label word.LineEnd h refl)
