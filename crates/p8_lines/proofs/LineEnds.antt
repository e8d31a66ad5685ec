-- The end of a line ends it from each state.
use Rattle.std.proofs.Common.{◌≡◌, ℕ, List, Bool, true, false, IsTrue, Option, Some, None, refl, sym, ◌∙◌, subst}
use Rattle.std.specs.Prelude.{if◌then◌else◌}
use Rattle.p8_lexer.specs.declared.word.Word.{Word}
use Rattle.p8_lexer.specs.declared.word.Word.TheVariants as word
use Rattle.p8_lines.specs.declared.arrow.Arrow.{Arrow}
use Rattle.p8_lines.specs.declared.sign.Sign.{Sign}
use Rattle.p8_lines.specs.declared.sign.Sign.TheVariants as sign
use Rattle.p8_lines.specs.declared.state.LineState.{LineState}
use Rattle.p8_lines.specs.declared.state.LineState.TheVariants as state
use Rattle.p8_lines.specs.Signs.{Matches}
use Rattle.p8_lines.specs.Diagram.{Phrase, choices}
use Rattle.p8_lines.specs.Tokens as line_tokens
use Rattle.p8_lines.specs.Tokens.{LineToken, string_length}
use Rattle.p8_lines.specs.Lines.{Follows, behind}
use Rattle.p8_lines.proofs.Arrows.{all_good, all_good_behind, taken, taken_behind}

abbrev is_line_end : Word → Bool
is_line_end word.LineEnd = true
is_line_end _ = false

abbrev is_over : LineState → Bool
is_over state.End = true
is_over _ = false

over_is : (r : LineState) → IsTrue (is_over r) → r ≡ state.End
over_is state.End h = refl
over_is r h = absurd cc

-- an arrow for the end of a line leads to the line's end
abbrev ends_line : Sign → LineState → Bool
ends_line (sign.Word w) r = if is_line_end w then is_over r else true
ends_line x r = true

sign_ends : (x : Sign) (r : LineState) (v : Word) (n : ℕ) → v ≡ word.LineEnd → Matches x v n → IsTrue (ends_line x r) → r ≡ state.End
sign_ends (sign.Word w) r v n e m h = let z : word.LineEnd ≡ w = sym e ∙ m in over_is r (subst (λ w. IsTrue (if is_line_end w then is_over r else true)) (sym z) h)
sign_ends sign.Size r v n e m h = let z = subst (λ v. Matches sign.Size v n) e m in absurd cc
sign_ends sign.Text r v n e m h = let z = sym e ∙ m.0 in absurd cc
sign_ends sign.LongText r v n e m h = let z = sym e ∙ m.0 in absurd cc
sign_ends sign.Condition r v n e m h = let z = subst (λ v. Matches sign.Condition v n) e m in absurd cc
sign_ends sign.TwoOperands r v n e m h = let z = subst (λ v. Matches sign.TwoOperands v n) e m in absurd cc
sign_ends sign.Memory r v n e m h = let z = subst (λ v. Matches sign.Memory v n) e m in absurd cc
sign_ends sign.OneOperand r v n e m h = let z = subst (λ v. Matches sign.OneOperand v n) e m in absurd cc
sign_ends sign.Flag r v n e m h = let z = subst (λ v. Matches sign.Flag v n) e m in absurd cc
sign_ends sign.Write r v n e m h = let z = subst (λ v. Matches sign.Write v n) e m in absurd cc
sign_ends sign.Label r v n e m h = let z = subst (λ v. Matches sign.Label v n) e m in absurd cc

abbrev arrow_ends : Arrow → Bool
arrow_ends a = ends_line a.sign a.to

states_end : (q : LineState) → IsTrue (all_good arrow_ends (choices q).arrows)
states_end state.End = refl
states_end q = refl

abbrev phrase_ends : Option Phrase → Bool
phrase_ends None = true
phrase_ends (Some h) = all_good_behind arrow_ends h

phrases_end : (q : LineState) → IsTrue (phrase_ends (choices q).phrase)
phrases_end state.End = refl
phrases_end q = refl

pub line_end_over : (q r : LineState) (t : LineToken) → Follows (choices q).arrows t r → line_tokens.word t ≡ word.LineEnd → r ≡ state.End
line_end_over q r t f e =
    let x = taken arrow_ends f (states_end q) in
    sign_ends x.arrow.sign r (line_tokens.word t) (string_length t) e x.is (subst (λ r. IsTrue (ends_line x.arrow.sign r)) x.goes x.good)

pub line_end_behind : (q r : LineState) (h : Phrase) (us : List LineToken) (t : LineToken) → (choices q).phrase ≡ Some h → Follows (behind h us) t r → line_tokens.word t ≡ word.LineEnd → r ≡ state.End
line_end_behind q r h us t p f e =
    let x = taken_behind arrow_ends h us f (subst (λ o. IsTrue (phrase_ends o)) p (phrases_end q)) in
    sign_ends x.arrow.sign r (line_tokens.word t) (string_length t) e x.is (subst (λ r. IsTrue (ends_line x.arrow.sign r)) x.goes x.good)
