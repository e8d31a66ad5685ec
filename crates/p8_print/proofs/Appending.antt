-- Words written one after the other.
use Rattle.std.proofs.Common.{◌≡◌, ℕ, suc, false, List, ◌++◌, sym, ap, ◌∙◌, append_assoc, arith}
use Rattle.std.specs.Prelude.{◌==◌}
use Rattle.std.proofs.lemmas.Bool.Decides.{nat_tests}
use Rattle.std.proofs.lemmas.Grind.{flat_map-append}
use Rattle.p8_lexer.specs.declared.word.Word.TheVariants as word_case
use Rattle.p8_print.specs.Spelled.{Spelled, reserved, written, text_of_words}

abbrev pub comma : Spelled
comma = reserved word_case.Comma

pub and_written : (a : List ℕ) {b c : List ℕ} (xs ys : List Spelled) → b ≡ a ++ text_of_words xs → c ≡ b ++ text_of_words ys → c ≡ a ++ text_of_words (xs ++ ys)
and_written a xs ys h k =
    k ∙ ap (λ t. t ++ text_of_words ys) h ∙ append_assoc a (text_of_words xs) (text_of_words ys) ∙ ap (λ t. a ++ t) (sym (flat_map-append written xs ys))

pub not_first : (n : ℕ) → (suc n == 0) ≡ false
not_first n = grind (arith, nat_tests)
