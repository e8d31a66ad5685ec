-- Each line of OBJ has a value.
use Rattle.std.proofs.Common.{◌≡◌, ℕ, List, [], ◌∷◌, Option, Some, None, Bool, true, false, refl, sym, ap, subst}
use Rattle.std.specs.Prelude.{IsTrue, if◌then◌else◌}
use Rattle.p8_tree.specs.declared.places.Place.{Place}
use Rattle.p8_tree.specs.Expressions.{Tree}
use Rattle.p8_lines.specs.declared.state.LineState.{LineState}
use Rattle.p8_lines.specs.declared.state.LineState.TheVariants as state
use Rattle.p8_declarations.specs.Parts.{Part, line_end, left_bracket, right_bracket, text, tree, part_of_piece, is_line_end}
use Rattle.p8_declarations.specs.Objects.{child, in_file, object_named, object, alone, objects_of_row}
use Rattle.p8_blocks.specs.Values.{HaveValues}
use Rattle.p8_blocks.proofs.Closed.{is_closed}
use Rattle.p8_blocks.proofs.Following.{Has, found, Keeps, both, holds}
use Rattle.p8_blocks.proofs.DeclarationWords.{Each, each}

abbrev own : LineState → Bool
own state.End = true
own state.LineEnd = true
own state.ObjHead = true
own state.ObjLine = true
own state.ObjNamed = true
own state.ObjCount = true
own state.ObjColon = true
own state.ObjFile = true
own q = false

closed : (q : LineState) → IsTrue (is_closed own q)
closed state.End = refl
closed q = refl

-- what is left of a line at each state
abbrev Goal : LineState → List Part → Type 0
Goal state.End ps = ps ≡ []
Goal state.LineEnd ps = ps ≡ line_end ∷ []
Goal state.ObjHead ps = Has (if is_line_end ps then Some [] else alone (object ps))
Goal state.ObjLine ps = Has (if is_line_end ps then Some [] else alone (object ps))
Goal state.ObjNamed ps = (n : List ℕ) (p : Place) → Has (alone (object_named n p ps))
Goal state.ObjCount ps = (n : List ℕ) (p : Place) → Has (alone (object_named n p (left_bracket ∷ ps)))
Goal state.ObjColon ps = (n : List ℕ) (p : Place) (e : Tree) → Has (alone (object_named n p (left_bracket ∷ tree e ∷ right_bracket ∷ ps)))
Goal state.ObjFile ps = (n : List ℕ) (p : Place) (c : Option Tree) → Has (alone (in_file n p c ps))
Goal q ps = Unit {0}

empty : (ps : List Part) → ps ≡ [] → Has (if is_line_end (line_end ∷ ps) then Some [] else alone (object (line_end ∷ ps)))
empty ps h = subst (λ ps. Has (if is_line_end (line_end ∷ ps) then Some [] else alone (object (line_end ∷ ps)))) (sym h) (found [])

in_text : (n : List ℕ) (p : Place) (c : Option Tree) (t : List ℕ) (q : Place) (ps : List Part) → ps ≡ line_end ∷ [] → Has (alone (in_file n p c (text t q ∷ ps)))
in_text n p c t q ps h = subst (λ ps. Has (alone (in_file n p c (text t q ∷ ps)))) (sym h) (found (child n p c t q ∷ []))

keeps : (q : LineState) (ps : List Part) → IsTrue (own q) → Keeps part_of_piece Each Goal q ps
keeps state.End ps h = record { arrows = tt; phrase = tt }
keeps state.LineEnd ps h = record { arrows = ((λ y. ap (λ ps. line_end ∷ ps) y), tt); phrase = tt }
keeps state.ObjHead ps h = record { arrows = ((λ y. empty ps y), ((λ y n p. y n p), tt)); phrase = tt }
keeps state.ObjLine ps h = record { arrows = ((λ y n p. y n p), tt); phrase = tt }
keeps state.ObjNamed ps h = record { arrows = ((λ y n p. y n p), ((λ y n p. y n p None), tt)); phrase = tt }
keeps state.ObjCount ps h = record {
  arrows = tt;
  phrase = both part_of_piece Each Goal state.ObjCount ps (λ b. ((λ y e p k n q. y n q e), tt));
}
keeps state.ObjColon ps h = record { arrows = ((λ y n p e. y n p (Some e)), tt); phrase = tt }
keeps state.ObjFile ps h = record { arrows = ((λ y t q n p c. in_text n p c t q ps y), tt); phrase = tt }
keeps q ps h = absurd cc

pub from_head : HaveValues objects_of_row state.ObjHead
from_head row ts r =
    let x : Has (objects_of_row row) = holds part_of_piece Each each own closed (refl, refl) Goal refl keeps r refl in
    (x.value, x.is)

pub from_line : HaveValues objects_of_row state.ObjLine
from_line row ts r =
    let x : Has (objects_of_row row) = holds part_of_piece Each each own closed (refl, refl) Goal refl keeps r refl in
    (x.value, x.is)
