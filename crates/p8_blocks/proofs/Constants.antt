-- Each line of CON has a value.
use Rattle.std.proofs.Common.{◌≡◌, ℕ, List, [], ◌∷◌, Some, None, Bool, true, false, refl, sym, subst}
use Rattle.std.specs.Prelude.{IsTrue, if◌then◌else◌}
use Rattle.p8_tree.specs.declared.places.Place.{Place}
use Rattle.p8_tree.specs.Sources.{Constant}
use Rattle.p8_lines.specs.declared.state.LineState.{LineState}
use Rattle.p8_lines.specs.declared.state.LineState.TheVariants as state
use Rattle.p8_declarations.specs.Parts.{Part, line_end, equals, hash, left_bracket, part_of_piece, is_line_end, ended}
use Rattle.p8_declarations.specs.Constants.{setting, constant, constants, constants_named, constants_behind, constants_of_row}
use Rattle.p8_blocks.specs.Values.{HaveValues}
use Rattle.p8_blocks.proofs.Closed.{is_closed}
use Rattle.p8_blocks.proofs.Following.{Has, found, Keeps, both, holds}
use Rattle.p8_blocks.proofs.DeclarationWords.{Each, each, with}

abbrev own : LineState → Bool
own state.End = true
own state.ConHead = true
own state.ConItem = true
own state.ConName = true
own state.ConValue = true
own state.ConStep = true
own state.ConMore = true
own q = false

closed : (q : LineState) → IsTrue (is_closed own q)
closed state.End = refl
closed q = refl

-- what is left of a line at each state
abbrev Goal : LineState → List Part → Type 0
Goal state.End ps = ps ≡ []
Goal state.ConHead ps = Has (if is_line_end ps then Some [] else constants ps)
Goal state.ConItem ps = Has (constants ps) × Has (if is_line_end ps then Some [] else constants ps)
Goal state.ConName ps = (n : List ℕ) (p : Place) → Has (constants_named n p ps)
Goal state.ConValue ps = ((p : Place) → Has (constants (hash p ∷ ps))) × ((n : List ℕ) (p : Place) → Has (constants_named n p (equals ∷ ps)))
Goal state.ConStep ps = (n : List ℕ) (p : Place) → Has (constants_named n p (left_bracket ∷ ps))
Goal state.ConMore ps = Has (constants_behind ps)
Goal q ps = Unit {0}

over : (ps : List Part) → ps ≡ [] → Has (ended {A = Constant} ps)
over ps h = subst (λ ps. Has (ended {A = Constant} ps)) (sym h) (found [])

alone : (ps : List Part) → ps ≡ [] → Has (if is_line_end (line_end ∷ ps) then Some [] else constants (line_end ∷ ps))
alone ps h = subst (λ ps. Has (if is_line_end (line_end ∷ ps) then Some [] else constants (line_end ∷ ps))) (sym h) (found [])

keeps : (q : LineState) (ps : List Part) → IsTrue (own q) → Keeps part_of_piece Each Goal q ps
keeps state.End ps h = record { arrows = tt; phrase = tt }
keeps state.ConHead ps h = record {
  arrows = ((λ y. alone ps y), ((λ y n p. y n p), ((λ y p. y.0 p), tt)));
  phrase = tt;
}
keeps state.ConItem ps h = record {
  arrows = ((λ y n p. (y n p, y n p)), ((λ y p. (y.0 p, y.0 p)), tt));
  phrase = tt;
}
keeps state.ConName ps h = record {
  arrows = ((λ y n p. y.1 n p), ((λ y n p. y n p), ((λ y n p. with (constant n p None None) (y.0)), ((λ y n p. with (constant n p None None) (over ps y)), tt))));
  phrase = tt;
}
keeps state.ConValue ps h = record {
  arrows = tt;
  phrase = both part_of_piece Each Goal state.ConValue ps (λ b. ((λ y e p k. ((λ p. with (setting p e) (y.0)), (λ n p. with (constant n p (Some e) None) (y.0)))), ((λ y e p k. ((λ p. with (setting p e) (over ps y)), (λ n p. with (constant n p (Some e) None) (over ps y)))), tt)));
}
keeps state.ConStep ps h = record {
  arrows = tt;
  phrase = both part_of_piece Each Goal state.ConStep ps (λ b. ((λ y e p k n q. with (constant n q None (Some e)) y), tt));
}
keeps state.ConMore ps h = record {
  arrows = ((λ y. y.0), ((λ y. over ps y), tt));
  phrase = tt;
}
keeps q ps h = absurd cc

pub from_head : HaveValues constants_of_row state.ConHead
from_head row ts r =
    let x : Has (constants_of_row row) = holds part_of_piece Each each own closed (refl, refl) Goal refl keeps r refl in
    (x.value, x.is)

pub from_item : HaveValues constants_of_row state.ConItem
from_item row ts r =
    let x = holds part_of_piece Each each own closed (refl, refl) Goal refl keeps r refl in
    let y : Has (constants_of_row row) = x.1 in
    (y.value, y.is)
