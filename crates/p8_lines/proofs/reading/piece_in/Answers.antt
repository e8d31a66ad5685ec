use Rattle.std.proofs.Common.{◌≡◌, refl, subst}
use Rattle.std.specs.Prelude.{IfOk}
use Rattle.p8_lexer.specs.Pieces.{piece_of}
use Rattle.p8_lines.specs.declared.state.LineState.{LineState}
use Rattle.p8_lines.specs.declared.state.LineState.TheVariants as state
use Rattle.p8_lines.specs.Tokens.{LineToken, piece}
use Rattle.p8_lines.specs.Lines.{piece_in}
use Rattle.p8_lines.specs.Stopping.{next}
use Rattle.p8_lines.proofs.reading.piece_in.Goals as goal

-- no label stands there
no_label : (q : LineState) (t : LineToken) → (q ≡ state.DatLabel → ⊥) → (q ≡ state.CallLocal → ⊥) → piece t ≡ piece_in q t
no_label state.DatLabel t n m = absurd (n refl)
no_label state.CallLocal t n m = absurd (m refl)
no_label q t n m = refl

pub returns-in_default : goal.returns-in_default
returns-in_default c = subst (λ x. IfOk c.piece_at.result (λ p. piece_of p ≡ x)) (no_label c.args.state (next c.args.here.now) c.in_default.not-DatLabel c.in_default.not-CallLocal) c.piece_at.ensures
