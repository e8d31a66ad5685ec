-- Each line of VAR has a value.
use Rattle.std.proofs.Common.{◌≡◌, ℕ, List, [], ◌∷◌, Some, None, Bool, true, false, refl, sym, subst}
use Rattle.std.specs.Prelude.{IsTrue, if◌then◌else◌}
use Rattle.p8_tree.specs.declared.places.Place.{Place}
use Rattle.p8_tree.specs.Sources.{Declared}
use Rattle.p8_lines.specs.declared.state.LineState.{LineState}
use Rattle.p8_lines.specs.declared.state.LineState.TheVariants as state
use Rattle.p8_declarations.specs.Parts.{Part, line_end, left_bracket, part_of_piece, is_line_end, ended}
use Rattle.p8_declarations.specs.Variables.{variable, variables, variables_named, variables_behind, sized_variables, variables_of_row}
use Rattle.p8_blocks.specs.Values.{HaveValues}
use Rattle.p8_blocks.proofs.Closed.{is_closed}
use Rattle.p8_blocks.proofs.Following.{Has, found, Keeps, both, holds}
use Rattle.p8_blocks.proofs.DeclarationWords.{Each, each, with}

abbrev own : LineState → Bool
own state.End = true
own state.VarHead = true
own state.VarLine = true
own state.VarName = true
own state.VarNamed = true
own state.VarCount = true
own state.VarMore = true
own q = false

closed : (q : LineState) → IsTrue (is_closed own q)
closed state.End = refl
closed q = refl

-- what is left of a line at each state
abbrev Goal : LineState → List Part → Type 0
Goal state.End ps = ps ≡ []
Goal state.VarHead ps = Has (if is_line_end ps then Some [] else sized_variables ps)
Goal state.VarLine ps = Has (if is_line_end ps then Some [] else sized_variables ps)
Goal state.VarName ps = (s : ℕ) → Has (variables s ps)
Goal state.VarNamed ps = (s : ℕ) (n : List ℕ) (p : Place) → Has (variables_named s n p ps)
Goal state.VarCount ps = (s : ℕ) (n : List ℕ) (p : Place) → Has (variables_named s n p (left_bracket ∷ ps))
Goal state.VarMore ps = (s : ℕ) → Has (variables_behind s ps)
Goal q ps = Unit {0}

pub over : (ps : List Part) → ps ≡ [] → Has (ended {A = Declared} ps)
over ps h = subst (λ ps. Has (ended {A = Declared} ps)) (sym h) (found [])

alone : (ps : List Part) → ps ≡ [] → Has (if is_line_end (line_end ∷ ps) then Some [] else sized_variables (line_end ∷ ps))
alone ps h = subst (λ ps. Has (if is_line_end (line_end ∷ ps) then Some [] else sized_variables (line_end ∷ ps))) (sym h) (found [])

keeps : (q : LineState) (ps : List Part) → IsTrue (own q) → Keeps part_of_piece Each Goal q ps
keeps state.End ps h = record { arrows = tt; phrase = tt }
keeps state.VarHead ps h = record { arrows = ((λ y. alone ps y), ((λ y s. y s), tt)); phrase = tt }
keeps state.VarLine ps h = record { arrows = ((λ y s. y s), tt); phrase = tt }
keeps state.VarName ps h = record { arrows = ((λ y n p s. y s n p), tt); phrase = tt }
keeps state.VarNamed ps h = record {
  arrows = ((λ y s n p. y s n p), ((λ y s n p. with (variable s n p None) (y s)), ((λ y s n p. with (variable s n p None) (over ps y)), tt)));
  phrase = tt;
}
keeps state.VarCount ps h = record {
  arrows = tt;
  phrase = both part_of_piece Each Goal state.VarCount ps (λ b. ((λ y e p k s n q. with (variable s n q (Some e)) (y s)), tt));
}
keeps state.VarMore ps h = record { arrows = ((λ y s. y s), ((λ y s. over ps y), tt)); phrase = tt }
keeps q ps h = absurd cc

pub from_head : HaveValues variables_of_row state.VarHead
from_head row ts r =
    let x : Has (variables_of_row row) = holds part_of_piece Each each own closed (refl, refl) Goal refl keeps r refl in
    (x.value, x.is)

pub from_line : HaveValues variables_of_row state.VarLine
from_line row ts r =
    let x : Has (variables_of_row row) = holds part_of_piece Each each own closed (refl, refl) Goal refl keeps r refl in
    (x.value, x.is)
