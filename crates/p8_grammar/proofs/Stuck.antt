-- A form goes on with no other words than its own.
use Rattle.std.proofs.Common.{◌≡◌, None, Bool, true, false, refl, sym, ◌∙◌}
use Rattle.std.specs.Prelude.{IsTrue}
use Rattle.p8_tree.specs.declared.places.Place.{Place}
use Rattle.p8_grammar.specs.Lexemes.{Setting, other}
use Rattle.p8_grammar.specs.Machine.{reading, Shape, using, grow}

pub other_stuck : (s : Setting) (sh : Shape) (p : Place) → grow s sh p other ≡ None
other_stuck s (using reading) p = refl
other_stuck s sh p = refl

-- a test that failed
pub denied : {P : Type 0} (b : Bool) → b ≡ false → (P → IsTrue b) → P → ⊥
denied b f g x = let h : b ≡ true = g x in let e : true ≡ false = sym h ∙ f in cc
