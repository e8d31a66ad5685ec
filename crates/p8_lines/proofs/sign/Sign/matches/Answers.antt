use Rattle.std.proofs.Common.{◌≡◌, ◌↔◌, ℕ, Bool, sym, ◌∙◌, subst, rules}
use Rattle.std.specs.Prelude.{IsTrue}
use denote.Enum.Bare.{sameb, same_true, true_same}
use Rattle.p8_lexer.specs.contracts.word.Word.{the_type}
use Rattle.p8_lexer.specs.declared.word.Word.{Word}
use Rattle.p8_lines.specs.declared.sign.Sign.{Sign}
use Rattle.p8_lines.specs.declared.sign.Sign.TheVariants as sign
use Rattle.p8_lines.specs.Signs.{Matches}
use Rattle.p8_lines.proofs.sign.Sign.matches.Goals as goal

same_word : (x : Sign) (w v : Word) (n : ℕ) (b : Bool) → x ≡ sign.Word w → b ≡ sameb the_type w v → IsTrue b ↔ Matches x v n
same_word x w v n b is e =
    subst (λ x. IsTrue b ↔ Matches x v n) (sym is) (λ h. sym (same_true the_type (search rules) w v (sym e ∙ h)), λ m. e ∙ true_same the_type w v (sym m))

pub returns-in-Word : goal.returns-in-Word
returns-in-Word c = same_word c.args.self c.in-Word.w c.args.word c.args.length c.eq.result c.in-Word.is c.eq.ensures
