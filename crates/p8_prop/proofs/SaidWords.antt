-- The sentence's table of words says what the code's table says, and so each token is the same to a line and to an expression.
use Rattle.std.proofs.Common.{◌≡◌, ◌∙◌, sym, ap, ap₂, refl, ℕ, zero, suc, Bool, true, false, List, [], ◌∷◌, ◌++◌, map, Option, Some, None}
use Rattle.std.specs.Prelude.{if◌then◌else◌, option_map, slice_get, unwrap_or}
use Rattle.p8_tree.specs.Names.{is_among}
use Rattle.p8_lexer.specs.declared.meaning.Meaning.{Meaning}
use Rattle.p8_lexer.specs.declared.meaning.Meaning.TheVariants.{Condition}
use Rattle.p8_lexer.specs.declared.token.TokenKind.{TokenKind}
use Rattle.p8_lexer.specs.declared.token.TokenKind.TheVariants as kind
use Rattle.p8_lexer.specs.declared.word.Word.{Word}
use Rattle.p8_lexer.specs.declared.word.Word.TheVariants as words
use Rattle.p8_lexer.specs.Words as old
use Rattle.p8_lexer.specs.Words.{every_word, capital}
use Rattle.p8_lexer.specs.Meanings.{meaning}
use Rattle.p8_grammar.specs.Lexemes as lexemes
use Rattle.p8_grammar.specs.Lexemes.{Lexeme, token}
use Rattle.p8_expr.specs.Words.{lexeme_of_word, lexeme_by_word, lexeme_by_kind, reserved_as}
use Rattle.p8_lines.specs.Signs as signs
use Rattle.p8_lines.specs.Tokens as tokens
use Rattle.p8_lines.specs.Tokens.{LineToken, piece_from}
use Rattle.p8_prop.specs.Words.{Entry, symbols, reserved_words, spelled_so, spelling, condition_of}
use Rattle.p8_prop.specs.Tokens.{is_size, entry_of, word_in, word_by, word, lexeme_in, lexeme_by, lexeme, terms, piece}

-- ---- the tables, side by side

abbrev pub words_of : List Entry → List Word
words_of es = map (λ (e : Entry). e.word) es

-- each word is spelled so
abbrev pub AreSpelled : List Entry → Type 0
AreSpelled es = map (λ (e : Entry). e.spellings) es ≡ map (λ (e : Entry). (old.entry e.word).spellings) es

-- each word is this to an expression
abbrev AreTold : List ℕ → List Entry → Type 0
AreTold text es = map (λ (e : Entry). lexeme_by_word text e.word) es ≡ map (λ (e : Entry). e.lexeme) es

pub symbol-words : words_of symbols ≡ old.symbols
unfolding symbols old.symbols
symbol-words = refl

all-words : words_of (symbols ++ reserved_words) ≡ every_word
unfolding symbols reserved_words old.symbols old.reserved_words every_word
all-words = refl

pub symbols-spelled : AreSpelled symbols
unfolding symbols
symbols-spelled = refl

all-spelled : AreSpelled (symbols ++ reserved_words)
unfolding symbols reserved_words
all-spelled = refl

symbols-told : (text : List ℕ) → AreTold text symbols
unfolding symbols lexeme_of_word
symbols-told text = refl

all-told : (text : List ℕ) → AreTold text (symbols ++ reserved_words)
unfolding symbols reserved_words lexeme_of_word
all-told text = refl

abbrev first_or : {X : Type 0} → X → List X → X
first_or d [] = d
first_or d (x ∷ xs) = x

abbrev behind_first : {X : Type 0} → List X → List X
behind_first [] = []
behind_first (x ∷ xs) = xs

pub first-same : {X : Type 0} {x y : X} {xs ys : List X} → x ∷ xs ≡ y ∷ ys → x ≡ y
first-same {x = x} same = ap (first_or x) same

pub rest-same : {X : Type 0} {x y : X} {xs ys : List X} → x ∷ xs ≡ y ∷ ys → xs ≡ ys
rest-same same = ap behind_first same

-- ---- a word by its characters

pick : (b c : Bool) → b ≡ c → (e : Entry) (o : Option Entry) (w : Option Word) → option_map (λ (e : Entry). e.word) o ≡ w
    → option_map (λ (e : Entry). e.word) (if b then Some e else o) ≡ (if c then Some e.word else w)
pick true true h e o w same = refl
pick false false h e o w same = same
pick true false h e o w same = absurd cc
pick false true h e o w same = absurd cc

found-same : (text : List ℕ) (es : List Entry) → AreSpelled es → option_map (λ (e : Entry). e.word) (spelled_so text es) ≡ old.first_spelled text (words_of es)
found-same text [] same = refl
found-same text (e ∷ es) same =
    pick (is_among e.spellings text) (old.is_spelled e.word text) (ap (λ (ts : List (List ℕ)). is_among ts text) (first-same same)) e (spelled_so text es)
    (old.first_spelled text (words_of es)) (found-same text es (rest-same same))

word-in : (o : Option Entry) → word_in o ≡ unwrap_or (option_map (λ (e : Entry). e.word) o) words.Name
word-in None = refl
word-in (Some e) = refl

name-word : (text : List ℕ) → word_in (entry_of text) ≡ unwrap_or (old.word_spelled text) words.Name
name-word text =
    let c = map capital text in
    word-in (entry_of text)
    ∙ ap (λ (o : Option Word). unwrap_or o words.Name) (found-same c (symbols ++ reserved_words) all-spelled ∙ ap (old.first_spelled c) all-words)

at-word : (es : List Entry) (n : ℕ) → word_in (slice_get es n) ≡ unwrap_or (slice_get (words_of es) n) words.Name
at-word [] n = refl
at-word (e ∷ es) zero = refl
at-word (e ∷ es) (suc n) = at-word es n

word-same : (text : List ℕ) (k : TokenKind) → word_by text k ≡ old.word_of_kind text k
word-same text kind.Name = name-word text
word-same text (kind.Symbol n) = at-word symbols n ∙ ap (λ (ws : List Word). unwrap_or (slice_get ws n) words.Name) symbol-words
word-same text (kind.Number v) = refl
word-same text kind.Float = refl
word-same text kind.Str = refl
word-same text kind.LineEnd = refl

-- ---- what it is to an expression

told-by : (b : Bool) (text : List ℕ) (e : Entry) (o : Option Entry) → e.lexeme ≡ lexeme_by_word text e.word
    → lexeme_in text o ≡ lexeme_by_word text (word_in o)
    → lexeme_in text (if b then Some e else o) ≡ lexeme_by_word text (word_in (if b then Some e else o))
told-by true text e o here later = here
told-by false text e o here later = later

told : (text c : List ℕ) (es : List Entry) → AreTold text es → lexeme_in text (spelled_so c es) ≡ lexeme_by_word text (word_in (spelled_so c es))
told text c [] same = refl
told text c (e ∷ es) same = told-by (is_among e.spellings c) text e (spelled_so c es) (sym (first-same same)) (told text c es (rest-same same))

at-told : (text : List ℕ) (es : List Entry) (n : ℕ) → AreTold text es → lexeme_in text (slice_get es n) ≡ lexeme_by_word text (word_in (slice_get es n))
at-told text [] n same = refl
at-told text (e ∷ es) zero same = sym (first-same same)
at-told text (e ∷ es) (suc n) same = at-told text es n (rest-same same)

lexeme-same : (text : List ℕ) (k : TokenKind) → lexeme_by text k ≡ lexeme_by_kind text (old.word_of_kind text k) k
unfolding lexeme_of_word
lexeme-same text kind.Name =
    ap (reserved_as (map capital text))
    (told text (map capital text) (symbols ++ reserved_words) (all-told text) ∙ ap (lexeme_by_word text) (name-word text))
lexeme-same text (kind.Symbol n) = at-told text symbols n (symbols-told text) ∙ ap (lexeme_by_word text) (word-same text (kind.Symbol n))
lexeme-same text (kind.Number v) = refl
lexeme-same text kind.Float = refl
lexeme-same text kind.Str = refl
lexeme-same text kind.LineEnd = refl

-- ---- tokens

pub token-word : (t : LineToken) → word t ≡ tokens.word t
token-word t = word-same t.text t.kind

pub token-lexeme : (t : LineToken) → lexeme t ≡ tokens.lexeme t
token-lexeme t = lexeme-same t.text t.kind

pub terms-same : (ts : List LineToken) → terms ts ≡ tokens.terms ts
terms-same [] = refl
terms-same (t ∷ ts) = ap₂ (λ (x : Lexeme) (us : List lexemes.Token). token t.place x ∷ us) (token-lexeme t) (terms-same ts)

pub piece-same : (t : LineToken) → piece t ≡ tokens.piece t
piece-same t = ap₂ (λ (x : Lexeme) (w : Word). piece_from x w t.place) (token-lexeme t) (token-word t)

pub size-same : (w : Word) → is_size w ≡ signs.is_size w
size-same words.ByteSize = refl
size-same w = refl

-- ---- words of DAT

pub spelling-same : (w : Word) → spelling w ≡ old.spelling w
unfolding symbols reserved_words
spelling-same words.PlusPlus = refl
spelling-same w = refl

-- the field of a word that means this
abbrev pub condition_in : Meaning → Option ℕ
condition_in (Condition c) = Some c
condition_in m = None

pub condition-same : (w : Word) → condition_of w ≡ condition_in (meaning w)
unfolding symbols reserved_words
condition-same words.PlusPlus = refl
condition-same w = refl
