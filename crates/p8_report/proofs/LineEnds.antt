-- The lines of the tail.
use Rattle.std.proofs.Common.{◌≡◌, ℕ, List, [], ◌∷◌, ◌++◌, codes, ap, ◌∙◌, append_assoc}
use Rattle.p8_access.specs.declared.order.Turn.{Turn}
use Rattle.p8_access.specs.Pins.{dira, outputs}
use Rattle.p8_instr.specs.Numerals.{hex}
use Rattle.p8_report.specs.Text.{pins_text}

-- a text with its line's end
pub line_end : (text old before after : List ℕ) → before ≡ old ++ text → after ≡ before ++ 10 ∷ [] → after ≡ old ++ (text ++ 10 ∷ [])
line_end text old before after e end = end ∙ ap (λ (xs : List ℕ). xs ++ 10 ∷ []) e ∙ append_assoc old text (10 ∷ [])

pub pins_line : (past : List Turn) (directions outs : ℕ) (old before after : List ℕ) → directions ≡ dira past → outs ≡ outputs past → before ≡ old ++ (codes "pins " ++ hex 8 directions ++ codes " " ++ hex 8 outs) → after ≡ before ++ 10 ∷ [] → after ≡ old ++ pins_text past
pins_line past directions outs old before after d o e end =
    line_end (codes "pins " ++ hex 8 (dira past) ++ codes " " ++ hex 8 (outputs past)) old before after (rw (← d, ← o) e) end
