-- Each word of a table is what its number came from.
use Rattle.std.proofs.Common.{◌≡◌, ℕ, ◌<◌, ◌^◌, ◌⊎◌, inl, inr, Bool, true, false, List, map, Option, Some, None, refl, sym, ap, ap₂, ◌∙◌, subst}
use Rattle.std.specs.Prelude.{◌&&◌, not, IsTrue, if◌then◌else◌, slice_index, option_and_then}
use Rattle.p8_lexer.specs.declared.word.Word.{Word}
use Rattle.p8_lexer.specs.Lexing.{is_letter}
use Rattle.p8_lexer.specs.Words.{spelling, capital, symbols, reserved_words, every_word}
use Rattle.p8_lexer.specs.Meanings.{word_by}
use Rattle.p8_lexer.specs.Table.{rows}
use Rattle.p8_lexer.specs.declared.word.Word.TheVariants as word
use Rattle.p8_grammar.specs.Lexemes as lexemes
use Rattle.p8_grammar.specs.Lexemes.{Mark, left_parenthesis, right_parenthesis, left_bracket, right_bracket, comma, colon, dot, dot_dot, hash, backslash, equal, Lexeme, number, name, method_result, string, mark, prefix_word, infix_word, sign, assigns, changes, address, object_address, size, register, here, string_word, constant_word, look, value, built_in, command, reserved, plain}
use Rattle.p8_grammar.specs.Grammar as grammar
use Rattle.p8_grammar.specs.Grammar.{Prefix, at_object, unary, prefix_of, effect_of, infix_of}
use Rattle.p8_expr.specs.Words.{lexeme_of_word, reserved_as}
use Rattle.p8_print.specs.Spelled as spelled
use Rattle.p8_print.specs.Spelled.{Spelled, IsReadable, is_free}
use Rattle.p8_print.specs.Tables.{operator_word, assignment_word, is_boolean, change_word, is_behind, size_word, register_word, built_word}
use Rattle.p8_expr.specs.Sources.{IsLexeme}
use Rattle.p8_printed.specs.Lexemes.{lexeme_of_reserved, lexeme_of_spelled, IsInCapitals}
use Rattle.p8_printed.proofs.LabelWords.{label_lexeme}

abbrev pub mark_word : Mark → Word
mark_word left_parenthesis = word.LeftParenthesis
mark_word right_parenthesis = word.RightParenthesis
mark_word left_bracket = word.LeftBracket
mark_word right_bracket = word.RightBracket
mark_word comma = word.Comma
mark_word colon = word.Colon
mark_word dot = word.Dot
mark_word dot_dot = word.DotDot
mark_word hash = word.Hash
mark_word backslash = word.Backslash
mark_word equal = word.EqualSign

-- the word of an assignment that has only one
abbrev pub assigning_word : Option ℕ → Word
assigning_word None = word.Assign
assigning_word (Some k) = assignment_word k

-- the word that a lexeme comes from, by its first number
abbrev pub word_of_lexeme : Lexeme → Word
word_of_lexeme (mark m) = mark_word m
word_of_lexeme method_result = word.Result
word_of_lexeme (prefix_word r k) = operator_word k
word_of_lexeme (infix_word r k) = operator_word k
word_of_lexeme (sign k j) = operator_word k
word_of_lexeme (assigns o) = assigning_word o
word_of_lexeme (changes b a) = change_word b
word_of_lexeme address = word.At
word_of_lexeme object_address = word.AtAt
word_of_lexeme (size z) = size_word z
word_of_lexeme (register a x) = register_word a
word_of_lexeme here = word.Dollar
word_of_lexeme string_word = word.String
word_of_lexeme constant_word = word.Constant
word_of_lexeme (look k) = built_word k
word_of_lexeme (value k) = built_word k
word_of_lexeme (built_in k) = built_word k
word_of_lexeme (command k) = built_word k
word_of_lexeme _ = word.Pub

-- and by its second number, if it has one
abbrev pub word_behind : Lexeme → Word
word_behind (sign k j) = operator_word j
word_behind (changes b a) = change_word a
word_behind x = word_of_lexeme x

abbrev pub parts_changes : Lexeme → Bool
parts_changes (changes b a) = not (is_behind b) && is_behind a
parts_changes _ = true

-- the effect byte of an operator that stands alone
abbrev alone : Lexeme → Option ℕ
alone x = option_and_then effect_of (prefix_of x)

abbrev word_alone : Lexeme → Option ℕ → Word
word_alone x None = word_of_lexeme x
word_alone x (Some k) = change_word k

abbrev behind_by : Option ℕ → Bool
behind_by None = false
behind_by (Some k) = is_behind k

-- AND and OR are told by their ranks and by their numbers
abbrev pub by_rank : Lexeme → Bool
by_rank (infix_word r k) = grammar.is_boolean r
by_rank _ = true

abbrev pub by_number : Lexeme → Bool
by_number (infix_word r k) = is_boolean k
by_number _ = true

-- and no assignment of one word is by them
abbrev pub by_neither : Lexeme → Bool
by_neither (assigns (Some k)) = not (is_boolean k)
by_neither _ = true

-- a word that can be printed for a lexeme
pub record IsFor (w : Word) (x : Lexeme) : Type 0 where
  pub reserved : is_free w ≡ false
  pub is : lexeme_of_word w ≡ x

-- for all words

back : (w : Word) → lexeme_of_word (word_of_lexeme (lexeme_of_word w)) ≡ lexeme_of_word w
unfolding lexeme_of_word word_by rows every_word symbols reserved_words
back word.PlusPlus = refl
back _ = refl

reserved_back : (w : Word) → is_free (word_of_lexeme (lexeme_of_word w)) ≡ false
unfolding lexeme_of_word word_by rows every_word symbols reserved_words
reserved_back word.PlusPlus = refl
reserved_back _ = refl

same_words : (w : Word) → word_behind (lexeme_of_word w) ≡ word_of_lexeme (lexeme_of_word w)
unfolding lexeme_of_word word_by rows every_word symbols reserved_words
same_words word.PlusPlus = refl
same_words _ = refl

changes_parted : (w : Word) → parts_changes (lexeme_of_word w) ≡ true
unfolding lexeme_of_word
changes_parted word.PlusPlus = refl
changes_parted _ = refl

words_alone : (w : Word) → word_alone (lexeme_of_word w) (alone (lexeme_of_word w)) ≡ word_of_lexeme (lexeme_of_word w)
unfolding lexeme_of_word word_by rows every_word symbols reserved_words
words_alone word.PlusPlus = refl
words_alone _ = refl

none_behind : (w : Word) → behind_by (alone (lexeme_of_word w)) ≡ false
unfolding lexeme_of_word
none_behind word.PlusPlus = refl
none_behind _ = refl

booleans_same : (w : Word) → by_rank (lexeme_of_word w) ≡ by_number (lexeme_of_word w)
unfolding lexeme_of_word
booleans_same word.PlusPlus = refl
booleans_same _ = refl

booleans_neither : (w : Word) → by_neither (lexeme_of_word w) ≡ true
unfolding lexeme_of_word
booleans_neither word.PlusPlus = refl
booleans_neither _ = refl

-- for all lexemes that come from a word

pub is_for : (x : Lexeme) (w : Word) → lexeme_of_word w ≡ x → IsFor (word_of_lexeme x) x
is_for x w h = subst (λ x. IsFor (word_of_lexeme x) x) h (record { reserved = reserved_back w; is = back w })

words_same : (x : Lexeme) (w : Word) → lexeme_of_word w ≡ x → word_behind x ≡ word_of_lexeme x
words_same x w h = subst (λ x. word_behind x ≡ word_of_lexeme x) h (same_words w)

is_for_behind : (x : Lexeme) (w : Word) → lexeme_of_word w ≡ x → IsFor (word_behind x) x
is_for_behind x w h = subst (λ v. IsFor v x) (sym (words_same x w h)) (is_for x w h)

pub mark_is : (m : Mark) → IsFor (mark_word m) (mark m)
unfolding lexeme_of_word
mark_is left_parenthesis = record { reserved = refl; is = refl }
mark_is right_parenthesis = record { reserved = refl; is = refl }
mark_is left_bracket = record { reserved = refl; is = refl }
mark_is right_bracket = record { reserved = refl; is = refl }
mark_is comma = record { reserved = refl; is = refl }
mark_is colon = record { reserved = refl; is = refl }
mark_is dot = record { reserved = refl; is = refl }
mark_is dot_dot = record { reserved = refl; is = refl }
mark_is hash = record { reserved = refl; is = refl }
mark_is backslash = record { reserved = refl; is = refl }
mark_is equal = record { reserved = refl; is = refl }

both : (a b : Bool) → a && b ≡ true → (a ≡ true) × (b ≡ true)
both true b h = (refl, h)
both false b h = absurd cc

negated : (b : Bool) → not b ≡ true → b ≡ false
negated true h = absurd cc
negated false h = refl

-- which of its two places a change has
pub change_parts : (b a : ℕ) → IsLexeme (changes b a) → (is_behind b ≡ false) × (is_behind a ≡ true)
change_parts b a h =
    let p = both (not (is_behind b)) (is_behind a) (subst (λ x. parts_changes x ≡ true) h.1 (changes_parted h.0)) in
    (negated (is_behind b) p.0, p.1)

-- what is printed for a lexeme
abbrev pub spelled_of : Lexeme → Spelled
spelled_of (number n) = spelled.number n
spelled_of (name n) = spelled.name n
spelled_of (string s) = spelled.string s
spelled_of (reserved n x) = spelled.label n
spelled_of x = spelled.reserved (word_of_lexeme x)

-- a word can be read back, and a name is in capitals
abbrev pub IsPrinted : Spelled → Type 0
IsPrinted w = IsReadable w × IsInCapitals w

-- a printed word that is this lexeme
pub record Prints (w : Spelled) (x : Lexeme) : Type 0 where
  pub printed : IsPrinted w
  pub is : lexeme_of_spelled w ≡ x

-- this lexeme, or a reserved word with its characters
abbrev pub Written : Lexeme → Lexeme → Type 0
Written y x = (y ≡ x) ⊎ ((n : List ℕ) × IsTrue (lexemes.is_free x) × (y ≡ reserved n x))

-- a printed word that is this lexeme, maybe with its characters
pub record Shows (w : Spelled) (x : Lexeme) : Type 0 where
  pub printed : IsPrinted w
  pub is : Written (lexeme_of_spelled w) x

-- neither a number nor a name nor a string, and without characters of its own
abbrev is_plain : Lexeme → Bool
is_plain (number n) = false
is_plain (name n) = false
is_plain (string s) = false
is_plain (reserved n x) = false
is_plain _ = true

words_plain : (w : Word) → is_plain (lexeme_of_word w) ≡ true
unfolding lexeme_of_word
words_plain word.PlusPlus = refl
words_plain _ = refl

reserved_written : (n : List ℕ) (x : Lexeme) → is_plain x ≡ true → Written (reserved_as n x) x
reserved_written n (number m) h = absurd cc
reserved_written n (name m) h = absurd cc
reserved_written n (string m) h = absurd cc
reserved_written n (reserved m x) h = absurd cc
reserved_written n (mark m) h = inl refl
reserved_written n (sign k j) h = inl refl
reserved_written n (assigns o) h = inl refl
reserved_written n object_address h = inl refl
reserved_written n x h = inr (n, refl, refl)

word_written : (w : Word) → Written (lexeme_of_reserved w) (lexeme_of_word w)
unfolding lexeme_of_reserved
word_written w = go (is_letter (slice_index (spelling w) 0))
  where
    go : (b : Bool) → Written (if b then reserved_as (map capital (spelling w)) (lexeme_of_word w) else lexeme_of_word w) (lexeme_of_word w)
    go true = reserved_written (map capital (spelling w)) (lexeme_of_word w) (words_plain w)
    go false = inl refl

reserved_shows : (w : Word) (x : Lexeme) → IsFor w x → Shows (spelled.reserved w) x
reserved_shows w x h = record { printed = (h.reserved, tt); is = subst (Written (lexeme_of_reserved w)) h.is (word_written w) }

-- a lexeme that never has characters is this very one
exactly : (w : Word) (x : Lexeme) → IsFor w x → ((n : List ℕ) → reserved_as n x ≡ x) → Prints (spelled.reserved w) x
unfolding lexeme_of_reserved
exactly w x h keeps = record { printed = (h.reserved, tt); is = go (is_letter (slice_index (spelling w) 0)) }
  where
    go : (b : Bool) → (if b then reserved_as (map capital (spelling w)) (lexeme_of_word w) else lexeme_of_word w) ≡ x
    go true = ap (reserved_as (map capital (spelling w))) h.is ∙ keeps (map capital (spelling w))
    go false = h.is

pub mark_prints : (m : Mark) → Prints (spelled.reserved (mark_word m)) (mark m)
mark_prints m = exactly (mark_word m) (mark m) (mark_is m) (λ n. refl)

pub number_prints : (n : ℕ) → n < 2 ^ 32 → Prints (spelled.number n) (number n)
number_prints n h = record { printed = (h, tt); is = refl }

pub prints : (x : Lexeme) → IsLexeme x → Shows (spelled_of x) x
prints (number n) h = record { printed = (h, tt); is = inl refl }
prints (name n) h = record { printed = h; is = inl refl }
prints (string s) h = record { printed = (h, tt); is = inl refl }
prints (reserved n x) h = record { printed = (h.0, h.1); is = inl (label_lexeme n h.2.0 h.0.2 h.2.1 ∙ ap (reserved n) h.2.2) }
prints x h = reserved_shows (word_of_lexeme x) x (is_for x h.0 h.1)

-- a word but for its characters

lexeme_plain : (x : Lexeme) → is_plain x ≡ true → (w : Word) → lexeme_of_word w ≡ x → IsLexeme x
lexeme_plain (number n) h w e = absurd cc
lexeme_plain (name n) h w e = absurd cc
lexeme_plain (string s) h w e = absurd cc
lexeme_plain (reserved n x) h w e = absurd cc
lexeme_plain x h w e = (w, e)

pub plain_lexeme : (x : Lexeme) → IsLexeme x → IsLexeme (plain x)
plain_lexeme (reserved n x) h = subst IsLexeme h.2.2 (lexeme_plain (lexeme_of_word h.2.0) (words_plain h.2.0) h.2.0 refl)
plain_lexeme x h = h

free_plain : (x : Lexeme) → IsTrue (lexemes.is_free x) → plain x ≡ x
free_plain (reserved n x) h = absurd cc
free_plain x h = refl

pub plain_written : (y x : Lexeme) → Written y x → plain y ≡ plain x
plain_written y x (inl e) = ap plain e
plain_written y x (inr (n, free, e)) = ap plain e ∙ sym (free_plain x free)

-- operators and assignments by the numbers that trees have

abbrev first : Option (ℕ × ℕ) → ℕ
first None = 0
first (Some q) = q.0

abbrev second : Option (ℕ × ℕ) → ℕ
second None = 0
second (Some q) = q.1

-- an operator has no characters of its own
pub infix_plain : (x : Lexeme) (r k : ℕ) → infix_of x ≡ Some (r, k) → plain x ≡ x
infix_plain (reserved n x) r k e = absurd cc
infix_plain x r k e = refl

pub prefix_plain : (x : Lexeme) (o : Prefix) → prefix_of x ≡ Some o → plain x ≡ x
prefix_plain (reserved n x) o e = absurd cc
prefix_plain x o e = refl

pub infix_prints : (x : Lexeme) (r k : ℕ) → IsLexeme x → infix_of x ≡ Some (r, k) → Shows (spelled.reserved (operator_word k)) x
infix_prints (infix_word r' k') r k h e =
    let same : k' ≡ k = ap second e in
    subst (λ k. Shows (spelled.reserved (operator_word k)) (infix_word r' k')) same (reserved_shows (operator_word k') (infix_word r' k') (is_for (infix_word r' k') h.0 h.1))
infix_prints (sign c j) r k h e =
    let same : j ≡ k = ap second e in
    subst (λ k. Shows (spelled.reserved (operator_word k)) (sign c j)) same (reserved_shows (operator_word j) (sign c j) (is_for_behind (sign c j) h.0 h.1))
infix_prints x r k h e = absurd cc

-- the word of an operator before its operand
abbrev pub prefix_operator : Prefix → Word
prefix_operator at_object = word.AtAt
prefix_operator (unary r k) = operator_word k

pub prefix_prints : (x : Lexeme) (o : Prefix) → IsLexeme x → prefix_of x ≡ Some o → Shows (spelled.reserved (prefix_operator o)) x
prefix_prints object_address o h e =
    let same : at_object ≡ o = cc in
    subst (λ o. Shows (spelled.reserved (prefix_operator o)) object_address) same (reserved_shows word.AtAt object_address (is_for object_address h.0 h.1))
prefix_prints (prefix_word r k) o h e =
    let same : unary r k ≡ o = cc in
    subst (λ o. Shows (spelled.reserved (prefix_operator o)) (prefix_word r k)) same (reserved_shows (operator_word k) (prefix_word r k) (is_for (prefix_word r k) h.0 h.1))
prefix_prints (sign k j) o h e =
    let same : unary 1 k ≡ o = cc in
    subst (λ o. Shows (spelled.reserved (prefix_operator o)) (sign k j)) same (reserved_shows (operator_word k) (sign k j) (is_for (sign k j) h.0 h.1))
prefix_prints x o h e = absurd cc

-- AND or OR, before the `=` of its assignment
pub boolean_prints : (r k : ℕ) → IsLexeme (infix_word r k) → Shows (spelled.reserved (operator_word k)) (infix_word r k)
boolean_prints r k h = reserved_shows (operator_word k) (infix_word r k) (is_for (infix_word r k) h.0 h.1)

pub boolean_word : (x : Lexeme) (r k : ℕ) → IsLexeme x → infix_of x ≡ Some (r, k) → IsTrue (grammar.is_boolean r) → IsLexeme (infix_word r k)
boolean_word (infix_word r' k') r k h e b = (h.0, h.1 ∙ ap₂ infix_word (ap first e) (ap second e))
boolean_word (sign c j) r k h e b = absurd (let z : IsTrue (grammar.is_boolean 6) = subst (λ r. IsTrue (grammar.is_boolean r)) (sym (ap first e)) b in cc)
boolean_word x r k h e b = absurd cc

pub boolean_number : (r k : ℕ) → IsLexeme (infix_word r k) → IsTrue (grammar.is_boolean r) → is_boolean k ≡ true
boolean_number r k h b = sym (subst (λ x. by_rank x ≡ by_number x) h.1 (booleans_same h.0)) ∙ b

pub no_boolean : (k : ℕ) → IsLexeme (assigns (Some k)) → is_boolean k ≡ false
no_boolean k h = negated (is_boolean k) (subst (λ x. by_neither x ≡ true) h.1 (booleans_neither h.0))

pub assignment_prints : (o : Option ℕ) → IsLexeme (assigns o) → Prints (spelled.reserved (assigning_word o)) (assigns o)
assignment_prints o h = exactly (assigning_word o) (assigns o) (is_for (assigns o) h.0 h.1) (λ n. refl)

-- the word of a change that stands after its variable is the word of the change before it
pub change_word_same : (b a : ℕ) → IsLexeme (changes b a) → change_word a ≡ change_word b
change_word_same b a h = words_same (changes b a) h.0 h.1

-- an operator that stands alone has the word of its change, and stands before the variable
pub record Alone (x : Lexeme) (k : ℕ) : Type 0 where
  pub word : spelled_of x ≡ spelled.reserved (change_word k)
  pub before : is_behind k ≡ false

alone_word : (x : Lexeme) (w : Word) (k : ℕ) → lexeme_of_word w ≡ x → alone x ≡ Some k → spelled_of x ≡ spelled.reserved (word_of_lexeme x) → Alone x k
alone_word x w k h e is = record {
  word = is ∙ ap spelled.reserved (sym (subst (λ x. word_alone x (alone x) ≡ word_of_lexeme x) h (words_alone w)) ∙ ap (word_alone x) e);
  before = sym (ap behind_by e) ∙ subst (λ x. behind_by (alone x) ≡ false) h (none_behind w);
}

pub stands_alone : (x : Lexeme) (o : Prefix) (k : ℕ) → IsLexeme x → prefix_of x ≡ Some o → effect_of o ≡ Some k → Alone x k
stands_alone object_address o k h e f = absurd (let z : None ≡ Some k = ap (option_and_then effect_of) e ∙ f in cc)
stands_alone (prefix_word r j) o k h e f = alone_word (prefix_word r j) h.0 k h.1 (ap (option_and_then effect_of) e ∙ f) refl
stands_alone (sign i j) o k h e f = alone_word (sign i j) h.0 k h.1 (ap (option_and_then effect_of) e ∙ f) refl
stands_alone x o k h e f = absurd cc
