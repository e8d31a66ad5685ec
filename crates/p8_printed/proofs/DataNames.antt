-- Names that aren't reserved, and the words of local labels, as words and as tokens.
use Rattle.std.proofs.Common.{◌≡◌, ℕ, List, [], ◌∷◌, map, Option, Some, None, true, refl, sym, ap, ◌∙◌, subst}
use Rattle.std.specs.Prelude.{IsTrue, if◌then◌else◌, slice_index, unwrap_or}
use Rattle.p8_lexer.specs.declared.word.Word.{Word}
use Rattle.p8_lexer.specs.declared.word.Word.TheVariants as word
use Rattle.p8_lexer.specs.Lexing.{is_letter}
use Rattle.p8_lexer.specs.Words.{spelling, capital, word_spelled}
use Rattle.p8_grammar.specs.Lexemes.{name_in}
use Rattle.p8_lines.specs.Signs.{is_label}
use Rattle.p8_lines.specs.Tokens as tokens
use Rattle.p8_lines.specs.Tokens.{LineToken, lexeme, piece}
use Rattle.p8_declarations.specs.DataParts.{name, part_of_piece}
use Rattle.p8_print.specs.Spelled as spelled
use Rattle.p8_print.specs.Spelled.{label_by, word_of_label, spell}
use Rattle.p8_printed.proofs.OperandWords.{plain_words}
use Rattle.p8_print.specs.Wording.{words_of_name}
use Rattle.p8_printed.specs.Reading.{word_read}
use Rattle.p8_printed.specs.Rereading.{IsSpelled}
use Rattle.p8_printed.proofs.LabelWords.{begins_so, label_readable, label_capitals, label_is}
use Rattle.p8_printed.proofs.Readings.{IsName, IsWord}
use Rattle.p8_printed.proofs.RowSteps.{token_lexeme}
use Rattle.p8_blocks.proofs.DataWords.{name_part}

pub part_of_name : (n : List ℕ) (t : LineToken) → IsName n → IsSpelled (spelled.name n) t → part_of_piece (piece t) ≡ name n t.place
unfolding spell
part_of_name n t is are = name_part t are.word ∙ ap (λ x. name x t.place) (ap (map capital) are.text ∙ is.1)

pub name_words : (n : List ℕ) → IsName n → words_of_name n ≡ spelled.name n ∷ []
name_words n is = plain_words n is.0

-- a token that is a local label's word has the label's name
pub label_named : (n : List ℕ) (t : LineToken) → IsWord n → IsSpelled (word_of_label n) t → name_in (lexeme t) ≡ Some n
label_named n t is are = let x = label_is n is in ap name_in (token_lexeme (word_of_label n) t (label_readable n is) (label_capitals n is) are ∙ x.is) ∙ x.named

-- and is such as may stand there

letters_stand : (w : Word) → (if is_letter (slice_index (spelling w) 0) then is_label w else true) ≡ true
letters_stand word.PlusPlus = refl
letters_stand _ = refl

label_stands : (n : List ℕ) → IsWord n → IsTrue (is_label (word_read (word_of_label n)))
label_stands n is = go (word_spelled n) refl
  where
    go : (o : Option Word) → word_spelled n ≡ o → IsTrue (is_label (word_read (label_by o n)))
    go None e = refl
    go (Some w) e =
        subst (λ o. IsTrue (is_label (unwrap_or o word.Name))) (sym e)
        (sym (ap (λ b. if b then is_label w else true) (begins_so n w is.0.2 e)) ∙ letters_stand w)

pub label_taken : (n : List ℕ) (t : LineToken) → IsWord n → IsSpelled (word_of_label n) t → IsTrue (is_label (tokens.word t))
label_taken n t is are = subst (λ w. IsTrue (is_label w)) (sym are.word) (label_stands n is)
