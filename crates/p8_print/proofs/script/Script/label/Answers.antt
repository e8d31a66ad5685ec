use Rattle.std.proofs.Common.{◌≡◌, ◌++◌, OnOk, [], ◌∷◌, ℕ, List, Option, Some, None, refl, ap, ◌∙◌, subst}
use Rattle.p8_lexer.specs.declared.word.Word.{Word}
use Rattle.p8_lexer.specs.Words.{word_spelled}
use Rattle.p8_print.specs.Spelled.{label_by, spell, written}
use Rattle.p8_print.proofs.script.Script.label.Goals as goal

-- a label is written as its characters, whether it is reserved or not
label_written : (w : Option Word) (n : List ℕ) → n ++ 32 ∷ [] ≡ written (label_by w n)
unfolding spell
label_written None n = refl
label_written (Some w) n = refl

pub returns : goal.returns
returns c =
    let n = c.args.text.now in
    subst (λ bytes. OnOk c.push_word.result (c.push_word.new.self ≡ c.args.self.now ++ bytes)) (ap (λ cs. cs ++ 32 ∷ []) c.as_slice.ensures ∙ label_written (word_spelled n) n) c.push_word.ensures
