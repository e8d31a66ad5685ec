-- Words that are names behind the colon of a local label.
use Rattle.std.proofs.Common.{◌≡◌, ℕ, List, Some, None, Bool, true, map, refl, sym, ap, ◌∙◌}
use Rattle.std.specs.Prelude.{if◌then◌else◌, slice_get}
use Rattle.p8_lexer.specs.declared.word.Word.{Word}
use Rattle.p8_lexer.specs.declared.word.Word.TheVariants as word
use Rattle.p8_lexer.specs.declared.token.TokenKind.{TokenKind}
use Rattle.p8_lexer.specs.declared.token.TokenKind.TheVariants as kind
use Rattle.p8_lexer.specs.declared.token.Token as lexer_token
use Rattle.p8_lexer.specs.Characters.{characters}
use Rattle.p8_lexer.specs.Words.{capital, word_of}
use Rattle.p8_grammar.specs.Lexemes.{Lexeme, number, name, string, reserved, name_in}
use Rattle.p8_grammar.specs.Machine.{loose}
use Rattle.p8_grammar.specs.Views.{lexeme_of}
use Rattle.p8_grammar.specs.declared.lexemes.Lexeme as lexeme_type
use Rattle.p8_grammar.specs.declared.lexemes.Lexeme.TheVariants as lexeme
use Rattle.p8_expr.specs.Words.{lexeme_of_word, lexeme_by_word, lexeme_by_kind, lexeme_of_token, reserved_as}
use Rattle.p8_expr.specs.Cursors.{text_in, text_at, lexeme_in, lexeme_at}
use Rattle.p8_expr.specs.Views.{is_lettered}
use Rattle.p8_expr.proofs.Proper.{passes, words_pass}

-- a word that is a name to the grammar is one to the reader
name_word : (n t m : List ℕ) (x : lexeme_type.Lexeme) → lexeme_of n t x ≡ name m → x ≡ lexeme.Name
name_word n t m lexeme.Name h = refl
name_word n t m x h = absurd cc

lettered : (n : List ℕ) (y : Lexeme) → passes y ≡ true → name_in (reserved_as n y) ≡ (if is_lettered (loose (reserved_as n y)) then Some n else None)
lettered n (number v) h = absurd cc
lettered n (name m) h = absurd cc
lettered n (string t) h = absurd cc
lettered n (reserved m x) h = absurd cc
lettered n y h = refl

-- a token of letters
pub of_letters : (text : List ℕ) (w : Word) → name_in (lexeme_by_kind text w kind.Name) ≡ (if is_lettered (loose (lexeme_by_kind text w kind.Name)) then Some (map capital text) else None)
of_letters text word.Name = refl
of_letters text w = lettered (map capital text) (lexeme_of_word w) (words_pass w)

-- what is a name is one there
pub loose_is_name : (z : Lexeme) (n : List ℕ) → loose z ≡ name n → name_in z ≡ Some n
loose_is_name (name m) n h = let e : m ≡ n = cc in ap Some e
loose_is_name (reserved m x) n h = absurd (freed_name x n h)
  where
    freed_name : (x : Lexeme) (n : List ℕ) → loose (reserved m x) ≡ name n → ⊥
    freed_name (number v) n h = cc
    freed_name x n h = cc
loose_is_name z n h = absurd cc

unnamed : (y : Lexeme) → passes y ≡ true → name_in y ≡ None
unnamed (name m) h = absurd cc
unnamed (reserved m x) h = absurd cc
unnamed y h = refl

-- and what is none isn't, but for a token of letters
pub no_letters : (text n t : List ℕ) (w : Word) (k : TokenKind) (x : lexeme_type.Lexeme) → (k ≡ kind.Name → ⊥) → loose (lexeme_by_kind text w k) ≡ lexeme_of n t x → (x ≡ lexeme.Name → ⊥) → name_in (lexeme_by_kind text w k) ≡ None
no_letters text n t w (kind.Number v) x a h b = refl
no_letters text n t w kind.Str x a h b = refl
no_letters text n t w kind.Name x a h b = absurd (a refl)
no_letters text n t w k x a h b = by_word w h
  where
    by_word : (w : Word) → loose (lexeme_by_word text w) ≡ lexeme_of n t x → name_in (lexeme_by_word text w) ≡ None
    by_word word.Name h = absurd (b (name_word n t (map capital text) x (sym h)))
    by_word w h = unnamed (lexeme_of_word w) (words_pass w)

pub label_here : (bytes : List ℕ) (tokens : List lexer_token.Token) (at : ℕ) (t : lexer_token.Token) (b : Bool) (n q : List ℕ) (x : lexeme_type.Lexeme) → slice_get tokens at ≡ Some t → t.kind ≡ kind.Name → loose (lexeme_of_token bytes t) ≡ lexeme_of n q x → b ≡ is_lettered (lexeme_of n q x) → name_in (lexeme_at bytes tokens at) ≡ (if b then Some (map capital (text_at bytes tokens at)) else None)
unfolding lexeme_of_token
label_here bytes tokens at t b n q x e k l is =
    let text = characters bytes t in
    let w = word_of bytes t in
    let tested : is_lettered (loose (lexeme_by_kind text w kind.Name)) ≡ b = ap (λ k. is_lettered (loose (lexeme_by_kind text w k))) (sym k) ∙ ap is_lettered l ∙ sym is in
    ap (λ o. name_in (lexeme_in bytes o)) e
    ∙ ap (λ k. name_in (lexeme_by_kind text w k)) k
    ∙ of_letters text w
    ∙ ap (λ b. if b then Some (map capital text) else None) tested
    ∙ ap (λ o. if b then Some (map capital (text_in bytes o)) else None) (sym e)

pub no_label_here : (bytes : List ℕ) (tokens : List lexer_token.Token) (at : ℕ) (t : lexer_token.Token) (n q : List ℕ) (x : lexeme_type.Lexeme) → slice_get tokens at ≡ Some t → (t.kind ≡ kind.Name → ⊥) → loose (lexeme_of_token bytes t) ≡ lexeme_of n q x → (x ≡ lexeme.Name → ⊥) → name_in (lexeme_at bytes tokens at) ≡ None
unfolding lexeme_of_token
no_label_here bytes tokens at t n q x e k l apart = ap (λ o. name_in (lexeme_in bytes o)) e ∙ no_letters (characters bytes t) n q (word_of bytes t) t.kind x k l apart
