-- Tokens that a source can have, as the grammar of expressions has them, for rows and expressions.
use Rattle.std.proofs.Common.{◌≡◌, Bool, true, false, List, [], ◌∷◌, ◌++◌, refl, sym, subst}
use Rattle.std.specs.Prelude.{IsTrue, not}
use Rattle.std.proofs.lemmas.List.Elements.{All-nil, All-cons, All-append}
use Rattle.p8_tree.specs.declared.places.Place.{Place}
use Rattle.p8_tree.specs.Expressions.{Tree}
use Rattle.p8_tree.specs.Forgetting.{anywhere, tree_anywhere}
use Rattle.p8_grammar.specs.Lexemes.{Setting, in_method, in_declaration, in_dat, in_data_item, in_action, is_value, allows_index, inside, behind, Mark, left_parenthesis, right_parenthesis, Lexeme, string, mark, string_word, Token, token}
use Rattle.p8_grammar.specs.Grammar.{word, upto, unquoted, Row, begin, ◌▹◌, Forms, parentheses, Reads, operand, is_string_alone, Spells, nothing, a_word, a_reserved_word, an_expression, an_unquoted}
use Rattle.p8_grammar.specs.Proper.{lexeme_in}
use Rattle.p8_grammar.proofs.Settings.{behind_value}
use Rattle.p8_lexer.specs.declared.word.Word.TheVariants as word_case
use Rattle.p8_expr.specs.Words.{lexeme_of_word}
use Rattle.p8_expr.specs.Sources.{IsLexeme, AreLexemes}
use Rattle.p8_printed.proofs.TableWords.{mark_word, mark_is}

abbrev Good : Token → Type 0
Good t = IsLexeme (lexeme_in t)

pub mark_lexeme : (m : Mark) → IsLexeme (mark m)
mark_lexeme left_parenthesis = (mark_word left_parenthesis, (mark_is left_parenthesis).is)
mark_lexeme m = (mark_word m, (mark_is m).is)

pub string_word_lexeme : IsLexeme string_word
unfolding lexeme_of_word
string_word_lexeme = (word_case.String, refl)

-- An expression, but for its places, is spelled by tokens of a source, at a place that takes a tree of at most this level.
pub record SpelledAt (s : Setting) (l : _) (e : Tree) : Type 0 where
  pub tree : Tree
  pub tokens : List Token
  pub reads : Reads s l tree tokens
  pub lexemes : AreLexemes tokens
  pub same : tree_anywhere tree ≡ tree_anywhere e

abbrev pub IsSpelled : Setting → Tree → Type 0
IsSpelled s e = SpelledAt s 22 e

-- a row is spelled by tokens of a source
pub record RowSpelled (s : Setting) (row : Row) : Type 0 where
  pub tokens : List Token
  pub spells : Spells s row tokens
  pub lexemes : AreLexemes tokens

pub lexeme_first : (x : Lexeme) (ts : List Token) → IsLexeme x → AreLexemes ts → AreLexemes (token anywhere x ∷ ts)
lexeme_first x ts h all = All-cons Good (token anywhere x) ts h all

pub lexemes_joined : (ts us : List Token) → AreLexemes ts → AreLexemes us → AreLexemes (ts ++ us)
lexemes_joined ts us h k = All-append Good ts us h k

-- A setting of values is that inside parentheses, where it allows an index.
pub record IsInner (s : Setting) : Type 0 where
  pub same : inside s ≡ s
  pub allows : IsTrue (allows_index s)
  pub value : IsTrue (is_value s)

module _ {s : Setting} where
  pub start : RowSpelled s begin
  start = record { tokens = []; spells = nothing; lexemes = All-nil Good }

  pub add : {row : Row} (x : Lexeme) → RowSpelled s row → IsLexeme x → RowSpelled s (row ▹ word anywhere x)
  add x r h = record { tokens = r.tokens ++ token anywhere x ∷ []; spells = a_word r.spells; lexemes = lexemes_joined r.tokens (token anywhere x ∷ []) r.lexemes (lexeme_first x [] h (All-nil Good)) }

  pub add_mark : {row : Row} (m : Mark) → RowSpelled s row → RowSpelled s (row ▹ word anywhere (mark m))
  add_mark m r = add (mark m) r (mark_lexeme m)

  behind_row : {row : Row} (m : Mark) (r : RowSpelled s row) (ts : List Token) → AreLexemes ts → AreLexemes (r.tokens ++ (ts ++ token anywhere (mark m) ∷ []))
  behind_row m r ts h = lexemes_joined r.tokens (ts ++ token anywhere (mark m) ∷ []) r.lexemes (lexemes_joined ts (token anywhere (mark m) ∷ []) h (lexeme_first (mark m) [] (mark_lexeme m) (All-nil Good)))

  pub put : {row : Row} {e : Tree} (m : Mark) → RowSpelled s row → (x : IsSpelled (inside s) e) → RowSpelled s (row ▹ upto x.tree m)
  put m r x = record {
    tokens = r.tokens ++ (x.tokens ++ token anywhere (mark m) ∷ []);
    spells = an_expression anywhere r.spells x.reads;
    lexemes = behind_row m r x.tokens x.lexemes;
  }

  -- the same of an expression that isn't a string alone
  pub put_unquoted : {row : Row} {e : Tree} (m : Mark) → RowSpelled s row → (x : IsSpelled (inside s) e) → IsTrue (not (is_string_alone x.tokens)) → RowSpelled s (row ▹ unquoted x.tree m)
  put_unquoted m r x apart = record {
    tokens = r.tokens ++ (x.tokens ++ token anywhere (mark m) ∷ []);
    spells = an_unquoted anywhere r.spells x.reads apart;
    lexemes = behind_row m r x.tokens x.lexemes;
  }

  -- a form that is an expression
  pub form : {l : _} {e e' : Tree} {row : Row} → Forms s e' row → RowSpelled s row → tree_anywhere e' ≡ tree_anywhere e → SpelledAt s l e
  form {e' = e'} f r same = record { tree = e'; tokens = r.tokens; reads = operand f r.spells; lexemes = r.lexemes; same = same }

  -- in parentheses an expression is an operand
  pub enclosed : {l : _} {e : Tree} → IsTrue (is_value s) → IsSpelled (inside s) e → SpelledAt s l e
  enclosed v x = form (parentheses v) (put right_parenthesis (add_mark left_parenthesis start) x) x.same

-- no string alone

abbrev pub is_string : Lexeme → Bool
is_string (string t) = true
is_string _ = false

pub no_string_alone : (p : Place) (x : Lexeme) (us : List Token) → is_string x ≡ false → IsTrue (not (is_string_alone (token p x ∷ us)))
no_string_alone p (string t) us h = absurd cc
no_string_alone p x [] h = refl
no_string_alone p x (u ∷ us) h = refl

-- an expression that isn't a string alone
pub record Unquoted (s : Setting) (e : Tree) : Type 0 where
  pub spelled : IsSpelled s e
  pub apart : IsTrue (not (is_string_alone spelled.tokens))

pub inside_of : {s : Setting} {e : Tree} → IsInner s → IsSpelled s e → IsSpelled (inside s) e
inside_of {e = e} i x = subst (λ s. IsSpelled s e) (sym i.same) x

-- in parentheses it is none
pub unquoted_of : {s : Setting} {e : Tree} → IsInner s → IsSpelled s e → Unquoted (inside s) e
unquoted_of {s = s} {e = e} i x = subst (λ s. Unquoted s e) (sym i.same) (record { spelled = spelled; apart = no_string_alone anywhere (mark left_parenthesis) others refl })
  where
    y : IsSpelled (inside s) e
    y = inside_of i x

    others : List Token
    others = y.tokens ++ token anywhere (mark right_parenthesis) ∷ []

    spelled : IsSpelled s e
    spelled = record {
      tree = y.tree;
      tokens = token anywhere (mark left_parenthesis) ∷ others;
      reads = operand (parentheses {q = anywhere} i.value) (an_expression anywhere (a_word nothing) y.reads);
      lexemes = lexeme_first (mark left_parenthesis) others (mark_lexeme left_parenthesis) (lexemes_joined y.tokens (token anywhere (mark right_parenthesis) ∷ []) y.lexemes (lexeme_first (mark right_parenthesis) [] (mark_lexeme right_parenthesis) (All-nil Good)));
      same = y.same;
    }

-- what is assigned stands in parentheses
inside_behind : (s : Setting) → inside (behind s) ≡ inside s
inside_behind in_method = refl
inside_behind in_declaration = refl
inside_behind in_dat = refl
inside_behind in_data_item = refl
inside_behind in_action = refl

pub right_side : (s : Setting) {l : _} {e : Tree} → IsSpelled (inside s) e → SpelledAt (behind s) l e
right_side s {e = e} x = enclosed (behind_value s) (subst (λ z. IsSpelled z e) (sym (inside_behind s)) x)

-- a row of an action is one of an expression in a method
respelled : {s s' : Setting} {row : Row} {ts : List Token} → inside s ≡ inside s' → Spells s row ts → Spells s' row ts
respelled i nothing = nothing
respelled i (a_word sp) = a_word (respelled i sp)
respelled i (a_reserved_word n free sp) = a_reserved_word n free (respelled i sp)
respelled i (an_expression {e = e} {us = us} p sp r) = an_expression p (respelled i sp) (subst (λ s. Reads s 22 e us) i r)
respelled i (an_unquoted {e = e} {us = us} p sp r apart) = an_unquoted p (respelled i sp) (subst (λ s. Reads s 22 e us) i r) apart

pub in_row : {s s' : Setting} {row : Row} → inside s ≡ inside s' → RowSpelled s row → RowSpelled s' row
in_row i r = record { tokens = r.tokens; spells = respelled i r.spells; lexemes = r.lexemes }
