-- Each head of a method has a value.
use Rattle.std.proofs.Common.{◌≡◌, ℕ, List, [], ◌∷◌, Some, None, Bool, true, false, refl, sym, subst}
use Rattle.std.specs.Prelude.{IsTrue}
use Rattle.p8_tree.specs.declared.places.Place.{Place}
use Rattle.p8_tree.specs.Sources.{MethodTree}
use Rattle.p8_lines.specs.declared.state.LineState.{LineState}
use Rattle.p8_lines.specs.declared.state.LineState.TheVariants as state
use Rattle.p8_declarations.specs.Parts.{Part, line_end, left_bracket, part_of_piece}
use Rattle.p8_declarations.specs.Variables.{variable, variables, variables_named, variables_behind}
use Rattle.p8_declarations.specs.Methods.{bare, with_parameter, with_result, with_locals, behind_result, result_named, behind_parameters, parameters, behind_parameter, behind_name, head, method_of_row}
use Rattle.p8_blocks.specs.Values.{HaveValues}
use Rattle.p8_blocks.proofs.Closed.{is_closed}
use Rattle.p8_blocks.proofs.Following.{Has, found, mapped, Keeps, both, holds}
use Rattle.p8_blocks.proofs.DeclarationWords.{Each, each, with}
use Rattle.p8_blocks.proofs.Variables.{over}

abbrev own : LineState → Bool
own state.End = true
own state.MethodName = true
own state.MethodNamed = true
own state.Parameter = true
own state.MoreParameters = true
own state.Parameters = true
own state.ResultName = true
own state.ResultNamed = true
own state.Local = true
own state.LocalNamed = true
own state.LocalCount = true
own state.MoreLocals = true
own q = false

closed : (q : LineState) → IsTrue (is_closed own q)
closed state.End = refl
closed q = refl

-- what is left of a head at each state
abbrev Goal : Bool → LineState → List Part → Type 0
Goal public state.End ps = ps ≡ []
Goal public state.MethodName ps = Has (head public ps)
Goal public state.MethodNamed ps = (m : MethodTree) → Has (behind_name m ps)
Goal public state.Parameter ps = (m : MethodTree) → Has (parameters m ps)
Goal public state.MoreParameters ps = (m : MethodTree) → Has (behind_parameter m ps)
Goal public state.Parameters ps = (m : MethodTree) → Has (behind_parameters m ps)
Goal public state.ResultName ps = (m : MethodTree) → Has (result_named m ps)
Goal public state.ResultNamed ps = (m : MethodTree) → Has (behind_result m ps)
Goal public state.Local ps = Has (variables 4 ps)
Goal public state.LocalNamed ps = (n : List ℕ) (p : Place) → Has (variables_named 4 n p ps)
Goal public state.LocalCount ps = (n : List ℕ) (p : Place) → Has (variables_named 4 n p (left_bracket ∷ ps))
Goal public state.MoreLocals ps = Has (variables_behind 4 ps)
Goal public q ps = Unit {0}

ends : (m : MethodTree) (ps : List Part) → ps ≡ [] → Has (behind_result m (line_end ∷ ps))
ends m ps h = subst (λ ps. Has (behind_result m (line_end ∷ ps))) (sym h) (found m)

keeps : (public : Bool) (q : LineState) (ps : List Part) → IsTrue (own q) → Keeps part_of_piece Each (Goal public) q ps
keeps public state.End ps h = record { arrows = tt; phrase = tt }
keeps public state.MethodName ps h = record { arrows = ((λ y n p. y (bare public n p)), tt); phrase = tt }
keeps public state.MethodNamed ps h = record {
  arrows = ((λ y m. y m), ((λ y m. y m), ((λ y m. mapped (with_locals m) y), ((λ y m. ends m ps y), tt))));
  phrase = tt;
}
keeps public state.Parameter ps h = record { arrows = ((λ y n p m. y (with_parameter m n p)), tt); phrase = tt }
keeps public state.MoreParameters ps h = record { arrows = ((λ y m. y m), ((λ y m. y m), tt)); phrase = tt }
keeps public state.Parameters ps h = record {
  arrows = ((λ y m. y m), ((λ y m. mapped (with_locals m) y), ((λ y m. ends m ps y), tt)));
  phrase = tt;
}
keeps public state.ResultName ps h = record { arrows = ((λ y n p m. y (with_result m n p)), tt); phrase = tt }
keeps public state.ResultNamed ps h = record {
  arrows = ((λ y m. mapped (with_locals m) y), ((λ y m. ends m ps y), tt));
  phrase = tt;
}
keeps public state.Local ps h = record { arrows = ((λ y n p. y n p), tt); phrase = tt }
keeps public state.LocalNamed ps h = record {
  arrows = ((λ y n p. y n p), ((λ y n p. with (variable 4 n p None) y), ((λ y n p. with (variable 4 n p None) (over ps y)), tt)));
  phrase = tt;
}
keeps public state.LocalCount ps h = record {
  arrows = tt;
  phrase = both part_of_piece Each (Goal public) state.LocalCount ps (λ b. ((λ y e p k n q. with (variable 4 n q (Some e)) y), tt));
}
keeps public state.MoreLocals ps h = record { arrows = ((λ y. y), ((λ y. over ps y), tt)); phrase = tt }
keeps public q ps h = absurd cc

pub from_name : (public : Bool) → HaveValues (method_of_row public) state.MethodName
from_name public row ts r =
    let x : Has (method_of_row public row) = holds part_of_piece Each each own closed (refl, refl) (Goal public) refl (keeps public) r refl in
    (x.value, x.is)
