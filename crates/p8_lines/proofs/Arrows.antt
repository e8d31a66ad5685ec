-- What all arrows at hand have, the one that a token takes has.
use Rattle.std.proofs.Common.{◌≡◌, List, [], ◌∷◌, Bool, true, false, refl}
use Rattle.std.specs.Prelude.{IsTrue, if◌then◌else◌}
use Rattle.p8_lines.specs.declared.arrow.Arrow.{Arrow}
use Rattle.p8_lines.specs.declared.state.LineState.{LineState}
use Rattle.p8_lines.specs.Diagram.{Phrase}
use Rattle.p8_lines.specs.Tokens.{LineToken}
use Rattle.p8_lines.specs.Lines.{IsOn, Follows, here, further, is_name, behind}

-- a token takes an arrow of which this is true
pub record Takes (p : Arrow → Bool) (t : LineToken) (r : LineState) : Type 0 where
  pub arrow : Arrow
  pub is : IsOn arrow t
  pub goes : arrow.to ≡ r
  pub good : IsTrue (p arrow)

abbrev pub all_good : (Arrow → Bool) → List Arrow → Bool
all_good p [] = true
all_good p (a ∷ others) = if p a then all_good p others else false

first_good : (p : Arrow → Bool) (a : Arrow) (others : List Arrow) → IsTrue (all_good p (a ∷ others)) → IsTrue (p a)
first_good p a others h = go (p a) h
  where
    go : (b : Bool) → IsTrue (if b then all_good p others else false) → IsTrue b
    go true h = refl
    go false h = absurd cc

others_good : (p : Arrow → Bool) (a : Arrow) (others : List Arrow) → IsTrue (all_good p (a ∷ others)) → IsTrue (all_good p others)
others_good p a others h = go (p a) h
  where
    go : (b : Bool) → IsTrue (if b then all_good p others else false) → IsTrue (all_good p others)
    go true h = h
    go false h = absurd cc

pub taken : (p : Arrow → Bool) {l : List Arrow} {t : LineToken} {r : LineState} → Follows l t r → IsTrue (all_good p l) → Takes p t r
taken p (here {a = a} {others = others} is) h = record { arrow = a; is = is; goes = refl; good = first_good p a others h }
taken p (further {a = a} {others = others} n f) h = taken p f (others_good p a others h)

-- it is true of all arrows after an expression
abbrev pub all_good_behind : (Arrow → Bool) → Phrase → Bool
all_good_behind p h = if all_good p h.behind_name then all_good p h.behind_other else false

pub taken_behind : (p : Arrow → Bool) (h : Phrase) (us : List LineToken) {t : LineToken} {r : LineState} → Follows (behind h us) t r → IsTrue (all_good_behind p h) → Takes p t r
taken_behind p h us f y = taken p f (go (all_good p h.behind_name) refl (is_name us) y)
  where
    go : (b : Bool) → all_good p h.behind_name ≡ b → (n : Bool) → IsTrue (if b then all_good p h.behind_other else false) → IsTrue (all_good p (if n then h.behind_name else h.behind_other))
    go true e true y = e
    go true e false y = y
    go false e n y = absurd cc
