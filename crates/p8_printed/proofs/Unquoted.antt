-- The words of an expression are never a string alone.
use Rattle.std.proofs.Common.{◌≡◌, ℕ, Bool, true, false, List, [], ◌∷◌, ◌++◌, map, Some, None, refl, sym, ap, ◌∙◌, append-nil, append_assoc}
use Rattle.std.specs.Prelude.{◌==◌, if◌then◌else◌, IsTrue, not, slice_index, unwrap_or}
use Rattle.p8_lexer.specs.declared.word.Word.{Word}
use Rattle.p8_lexer.specs.declared.word.Word.TheVariants as word_case
use Rattle.p8_lexer.specs.declared.meaning.Meaning.{Meaning}
use Rattle.p8_lexer.specs.declared.meaning.Meaning.TheVariants as meant
use Rattle.p8_lexer.specs.Meanings.{meaning}
use Rattle.p8_lexer.specs.Lexing.{is_letter}
use Rattle.p8_lexer.specs.Words.{spelling, capital, same, word_spelled}
use Rattle.p8_tree.specs.Expressions.{Tree, node, Form, Number, Var, Call, Binary, Assign, Change, Variable, Named, Part, Memory, Register}
use Rattle.p8_grammar.specs.Lexemes as lexemes
use Rattle.p8_grammar.specs.Lexemes.{Lexeme, name, mark, sign, assigns, object_address, Token, token}
use Rattle.p8_grammar.specs.Grammar.{result_name, is_string_alone}
use Rattle.p8_expr.specs.Words.{mark_of_word, lexeme_of_meaning, lexeme_of_word, lexeme_by_word, reserved_as}
use Rattle.p8_print.specs.Spelled as spelled
use Rattle.p8_print.specs.Spelled.{Spelled, reserved, word_of_label}
use Rattle.p8_print.specs.Tables.{operator_word, is_behind, change_word, size_word}
use Rattle.p8_print.specs.Wording.{is_number, operand_with, words_of_name, words_of_assignment, words_of, words_of_form, words_of_variable, words_of_index}
use Rattle.p8_printed.specs.Lexemes.{lexeme_of_reserved, lexeme_of_spelled, AreWords}
use Rattle.p8_printed.proofs.Rows.{is_string, no_string_alone}

-- ---- what words begin with

abbrev begins_quoted : List Spelled → Bool
begins_quoted (spelled.string s ∷ ws) = true
begins_quoted _ = false

name_begins : (n : List ℕ) (rest : List Spelled) → begins_quoted (words_of_name n ++ rest) ≡ false
name_begins [] rest = refl
name_begins (c ∷ cs) rest = go (c == 58) (same (c ∷ cs) result_name)
  where
    go : (local result : Bool) → begins_quoted ((if local then reserved word_case.Colon ∷ word_of_label cs ∷ [] else if result then reserved word_case.Result ∷ [] else spelled.name (c ∷ cs) ∷ []) ++ rest) ≡ false
    go true b = refl
    go false true = refl
    go false false = refl

variable_begins : (v : Variable) (rest : List Spelled) → begins_quoted (words_of_variable v ++ rest) ≡ false
variable_begins (Named n i p) rest = ap begins_quoted (append_assoc (words_of_name n) (words_of_index i) rest) ∙ name_begins n (words_of_index i ++ rest)
variable_begins (Part n z i p) rest =
    let dot : List Spelled = reserved word_case.Dot ∷ reserved (size_word z) ∷ words_of_index i in
    ap begins_quoted (append_assoc (words_of_name n) dot rest) ∙ name_begins n (dot ++ rest)
variable_begins (Memory z e i p) rest = refl
variable_begins (Register a x p) rest = refl

operand_begins : (e : Tree) (rest : List Spelled) → begins_quoted (operand_with (is_number e) (words_of e) ++ rest) ≡ false
operand_begins (node p (Number n)) rest = refl
operand_begins (node p f) rest = refl

form_begins : (f : Form) → begins_quoted (words_of_form f) ≡ false
form_begins (Var v) = ap begins_quoted (sym (append-nil (words_of_variable v))) ∙ variable_begins v []
form_begins (Call true o i n p es) = refl
form_begins (Call false None i n p es) = refl
form_begins (Call false (Some o) i n p es) = refl
form_begins (Binary k a b) = operand_begins a (reserved (operator_word k) ∷ operand_with (is_number b) (words_of b))
form_begins (Assign v o e) = variable_begins v (words_of_assignment o ++ operand_with (is_number e) (words_of e))
form_begins (Change v k) = go (is_behind k)
  where
    go : (behind : Bool) → begins_quoted (if behind then words_of_variable v ++ reserved (change_word k) ∷ [] else reserved (change_word k) ∷ words_of_variable v) ≡ false
    go true = variable_begins v (reserved (change_word k) ∷ [])
    go false = refl
form_begins f = refl

-- ---- what tokens are

no_mark : (w : Word) → is_string (mark_of_word w) ≡ false
no_mark word_case.LeftParenthesis = refl
no_mark _ = refl

no_meaning : (w : Word) (m : Meaning) → is_string (lexeme_of_meaning w m) ≡ false
no_meaning w meant.Mark = no_mark w
no_meaning w _ = refl

no_word : (w : Word) → is_string (lexeme_of_word w) ≡ false
unfolding lexeme_of_word
no_word w = no_meaning w (meaning w)

no_characters : (n : List ℕ) (x : Lexeme) → is_string (reserved_as n x) ≡ false
no_characters n (name m) = refl
no_characters n (mark m) = refl
no_characters n (sign k j) = refl
no_characters n (assigns o) = refl
no_characters n object_address = refl
no_characters n (lexemes.reserved m x) = refl
no_characters n x = refl

no_reserved : (w : Word) → is_string (lexeme_of_reserved w) ≡ false
unfolding lexeme_of_reserved
no_reserved w = go (is_letter (slice_index (spelling w) 0))
  where
    go : (b : Bool) → is_string (if b then reserved_as (map capital (spelling w)) (lexeme_of_word w) else lexeme_of_word w) ≡ false
    go true = no_characters (map capital (spelling w)) (lexeme_of_word w)
    go false = no_word w

unless_quoted : (w : Spelled) (ws : List Spelled) → begins_quoted (w ∷ ws) ≡ false → is_string (lexeme_of_spelled w) ≡ false
unless_quoted (reserved w) ws h = no_reserved w
unless_quoted (spelled.label n) ws h = no_characters n (lexeme_by_word n (unwrap_or (word_spelled n) word_case.Name))
unless_quoted (spelled.string s) ws h = absurd cc
unless_quoted w ws h = refl

by_words : (us : List Token) (ws : List Spelled) → AreWords us ws → begins_quoted ws ≡ false → IsTrue (not (is_string_alone us))
by_words [] ws h b = refl
by_words (token p x ∷ us) [] h b = absurd cc
by_words (token p x ∷ us) (w ∷ ws) h b =
    let first : x ≡ lexeme_of_spelled w = cc in
    no_string_alone p x us (ap is_string first ∙ unless_quoted w ws b)

pub not_string_alone : (e : Tree) (us : List Token) → AreWords us (words_of e) → IsTrue (not (is_string_alone us))
not_string_alone (node p f) us h = by_words us (words_of_form f) h (form_begins f)
