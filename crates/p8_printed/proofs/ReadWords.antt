-- A word of a file is to an expression what was written.
use Rattle.std.proofs.Common.{◌≡◌, ℕ, ◌-◌, inl, inr, Bool, true, false, List, [], ◌∷◌, ◌++◌, length, map, take, Some, refl, sym, ap, ◌∙◌, arith}
use Rattle.std.specs.Prelude.{if◌then◌else◌, not, slice_get, slice_index}
use Rattle.std.specs.List.{list_all}
use Rattle.std.proofs.Math.Seq.{take-append_seam}
use Rattle.std.proofs.lemmas.List.{length-append}
use Rattle.p8_lexer.specs.declared.token.Token as lexer_token
use Rattle.p8_lexer.specs.declared.token.TokenKind.{TokenKind}
use Rattle.p8_lexer.specs.declared.word.Word.{Word}
use Rattle.p8_lexer.specs.declared.word.Word.TheVariants as word_case
use Rattle.p8_lexer.specs.Characters.{characters}
use Rattle.p8_lexer.specs.Lexing.{is_letter}
use Rattle.p8_lexer.specs.Words.{spelling, symbols, capital, word_of_kind}
use Rattle.p8_lexer.proofs.Symbols.{passes_at}
use Rattle.p8_grammar.specs.Lexemes.{name, string}
use Rattle.p8_expr.specs.Words.{lexeme_of_word, between_quotes, lexeme_by_word, reserved_as, lexeme_by_kind, lexeme_of_token}
use Rattle.p8_print.specs.Spelled as spelled
use Rattle.p8_print.specs.Spelled.{Spelled, IsReadable, is_free, spell}
use Rattle.p8_printed.specs.Reading.{word_read, IsKind, IsWord}
use Rattle.p8_printed.specs.Lexemes.{lexeme_of_reserved, lexeme_of_spelled, IsInCapitals}

pub no_name : (text : List ℕ) (w : Word) → is_free w ≡ false → lexeme_by_word text w ≡ lexeme_of_word w
no_name text word_case.Name h = absurd cc
no_name text _ h = refl

quoted : (s : List ℕ) → between_quotes (34 ∷ (s ++ 34 ∷ [])) ≡ s
quoted s =
    let long : length (34 ∷ (s ++ 34 ∷ [])) - 2 ≡ length s = omega (arith, length-append s (34 ∷ [])) in
    ap (λ n. take n (s ++ 34 ∷ [])) long ∙ take-append_seam s (34 ∷ [])

-- a reserved word by its first character

with_letters : (w : Word) → is_letter (slice_index (spelling w) 0) ≡ true → lexeme_of_reserved w ≡ reserved_as (map capital (spelling w)) (lexeme_of_word w)
unfolding lexeme_of_reserved
with_letters w h = ap (λ b. if b then reserved_as (map capital (spelling w)) (lexeme_of_word w) else lexeme_of_word w) h

without_letters : (w : Word) → is_letter (slice_index (spelling w) 0) ≡ false → lexeme_of_reserved w ≡ lexeme_of_word w
unfolding lexeme_of_reserved
without_letters w h = ap (λ b. if b then reserved_as (map capital (spelling w)) (lexeme_of_word w) else lexeme_of_word w) h

no_letters : list_all (λ w. not (is_letter (slice_index (spelling w) 0))) symbols ≡ true
unfolding symbols
no_letters = refl

negated : (b : Bool) → not b ≡ true → b ≡ false
negated true h = absurd cc
negated false h = refl

pub symbol_begins : (s : ℕ) (w : Word) → slice_get symbols s ≡ Some w → is_letter (slice_index (spelling w) 0) ≡ false
symbol_begins s w at = negated (is_letter (slice_index (spelling w) 0)) (passes_at (λ w. not (is_letter (slice_index (spelling w) 0))) symbols no_letters s w at)

-- a token of this kind and of these characters, which are those of a word
pub lexeme_is : (w : Spelled) (text : List ℕ) (k : TokenKind) → IsReadable w → IsInCapitals w → IsKind w k → word_of_kind text k ≡ word_read w → text ≡ spell w → lexeme_by_kind text (word_of_kind text k) k ≡ lexeme_of_spelled w
unfolding spell
lexeme_is w text k r c h e cs = go (word_of_kind text k) w h e cs r c
  where
    go : (v : Word) (w : Spelled) → IsKind w k → v ≡ word_read w → text ≡ spell w → IsReadable w → IsInCapitals w → lexeme_by_kind text v k ≡ lexeme_of_spelled w
    go v (spelled.reserved w) (inl h) e cs r c =
        ap (λ k. lexeme_by_kind text v k) h.0
        ∙ ap (λ v. reserved_as (map capital text) (lexeme_by_word text v)) e
        ∙ ap (reserved_as (map capital text)) (no_name text w r)
        ∙ ap (λ t. reserved_as (map capital t) (lexeme_of_word w)) cs
        ∙ sym (with_letters w h.1)
    go v (spelled.reserved w) (inr h) e cs r c = ap (λ k. lexeme_by_kind text v k) h.1 ∙ ap (λ v. lexeme_by_word text v) e ∙ no_name text w r ∙ sym (without_letters w (symbol_begins h.0 w h.2))
    go v (spelled.name n) h e cs r c =
        ap (λ k. lexeme_by_kind text v k) h
        ∙ ap (λ v. reserved_as (map capital text) (lexeme_by_word text v)) e
        ∙ ap (λ t. name (map capital t)) cs
        ∙ ap (λ t. name t) c
    go v (spelled.label n) h e cs r c =
        ap (λ k. lexeme_by_kind text v k) h
        ∙ ap (λ v. reserved_as (map capital text) (lexeme_by_word text v)) e
        ∙ ap (λ t. reserved_as (map capital t) (lexeme_by_word t (word_read (spelled.label n)))) cs
        ∙ ap (λ t. reserved_as t (lexeme_by_word n (word_read (spelled.label n)))) c
    go v (spelled.number n) h e cs r c = ap (λ k. lexeme_by_kind text v k) h
    go v (spelled.string s) h e cs r c = ap (λ k. lexeme_by_kind text v k) h ∙ ap (λ t. string (between_quotes t)) cs ∙ ap (λ t. string t) (quoted s)

pub lexeme_kept : (bytes : List ℕ) (line column : ℕ) (w : Spelled) (t : lexer_token.Token) → IsWord bytes line column w t → IsReadable w → IsInCapitals w → lexeme_of_token bytes t ≡ lexeme_of_spelled w
unfolding lexeme_of_token
lexeme_kept bytes line column w t is r c = lexeme_is w (characters bytes t) t.kind r c is.kind is.word is.characters
