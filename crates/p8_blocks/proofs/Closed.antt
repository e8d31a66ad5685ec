-- States to which no others lead: what is true of a state is true of each that follows it.
use Rattle.std.proofs.Common.{◌≡◌, List, Option, Some, None, Bool, true, false, refl, subst}
use Rattle.std.specs.Prelude.{IsTrue, if◌then◌else◌}
use Rattle.p8_lines.specs.declared.state.LineState.{LineState}
use Rattle.p8_lines.specs.Diagram.{Phrase, choices}
use Rattle.p8_lines.specs.Tokens.{LineToken}
use Rattle.p8_lines.specs.Lines.{Follows, behind}
use Rattle.p8_lines.proofs.Arrows.{all_good, all_good_behind, taken, taken_behind}

abbrev all_own : (LineState → Bool) → Option Phrase → Bool
all_own own None = true
all_own own (Some h) = all_good_behind (λ a. own a.to) h

abbrev pub is_closed : (LineState → Bool) → LineState → Bool
is_closed own q = if own q then (if all_good (λ a. own a.to) (choices q).arrows then all_own own (choices q).phrase else false) else true

pub halves : (a b : Bool) → IsTrue (if a then b else false) → (a ≡ true) × (b ≡ true)
halves true b h = (refl, h)
halves false b h = absurd cc

module _ (own : LineState → Bool) (closed : (q : LineState) → IsTrue (is_closed own q)) where
  own_choices : (q : LineState) → IsTrue (own q) → (all_good (λ a. own a.to) (choices q).arrows ≡ true) × (all_own own (choices q).phrase ≡ true)
  own_choices q h =
      halves (all_good (λ a. own a.to) (choices q).arrows) (all_own own (choices q).phrase)
      (subst (λ b. IsTrue (if b then (if all_good (λ a. own a.to) (choices q).arrows then all_own own (choices q).phrase else false) else true)) h (closed q))

  pub own_next : (q r : LineState) (t : LineToken) → Follows (choices q).arrows t r → IsTrue (own q) → IsTrue (own r)
  own_next q r t f h =
      let x = taken (λ a. own a.to) f ((own_choices q h).0) in
      subst (λ r. IsTrue (own r)) x.goes x.good

  pub own_behind : (q r : LineState) (h : Phrase) (us : List LineToken) (t : LineToken) → (choices q).phrase ≡ Some h → Follows (behind h us) t r → IsTrue (own q) → IsTrue (own r)
  own_behind q r h us t e f y =
      let good : IsTrue (all_good_behind (λ a. own a.to) h) = subst (λ o. IsTrue (all_own own o)) e ((own_choices q y).1) in
      let x = taken_behind (λ a. own a.to) h us f good in
      subst (λ r. IsTrue (own r)) x.goes x.good
