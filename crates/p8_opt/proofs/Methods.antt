-- No fault of a method comes of folding it.
use Rattle.std.proofs.Common.{◌≡◌, ◌≤◌, List, [], ◌∷◌, refl, arith}
use Rattle.std.specs.Prelude.{Contains}
use Rattle.p8_tree.specs.declared.places.Place.{Place}
use Rattle.p8_tree.specs.Proper.{AreProperStatements}
use Rattle.p8_tree.specs.Sources.{MethodTree}
use Rattle.p8_tree.specs.Statements.{Statements}
use Rattle.p8_tree.specs.declared.faults.Fault.{Fault}
use Rattle.p8_tree.specs.Faults.{fault}
use Rattle.p8_tree.specs.declared.refusal.Refusal.TheVariants.{JumpTooFar}
use Rattle.p8_gen.specs.Depths.{held_in}
use Rattle.p8_gen.specs.Methods.{method_code}
use Rattle.p8_gen.specs.Names.{Names, all_wide}
use Rattle.p8_gen.specs.Pieces.{empty}
use Rattle.p8_meaning.specs.Constants.{constants_in}
use Rattle.p8_meaning.specs.Folding.{folded_body}
use Rattle.p8_stmt.specs.Methods.{rebodied, IsMethodFault, jump_too_far, frame_too_large, holds_too_much}
use Rattle.p8_opt.specs.Asked.{HideNoConstant}
use Rattle.p8_opt.proofs.Depth.{body-held}
use Rattle.p8_opt.proofs.Length.{suits-of}
use Rattle.p8_opt.proofs.Statements.{method-closer}

none-in : (xs : List Place) → ((place : Place) → ¬ Contains xs place) → xs ≡ []
none-in [] never = refl
none-in (x ∷ xs) never = absurd (never x (0, omega arith, refl))

never-in : (xs : List Place) (place : Place) → xs ≡ [] → ¬ Contains xs place
never-in [] place none has = absurd (omega (arith, has.1))
never-in (x ∷ xs) place none has = absurd (cc)

module _ (n : Names) (wide : n.wide ≡ all_wide) (hides : HideNoConstant n) (ss : Statements) where
  pub method-held : held_in n (folded_body (constants_in n.constants) ss) ≤ held_in n ss
  method-held = body-held n (constants_in n.constants) (suits-of n hides).starts ss

  pub method-short : AreProperStatements ss → (method_code n (folded_body (constants_in n.constants) ss)).end ≤ (method_code n ss).end
  method-short proper = let short = (method-closer n (record { wide = wide; hides = hides }) ss proper).short empty empty in omega (arith, short)

  method-near : AreProperStatements ss → (method_code n ss).too_far ≡ [] → (method_code n (folded_body (constants_in n.constants) ss)).too_far ≡ []
  method-near proper far = (method-closer n (record { wide = wide; hides = hides }) ss proper).near empty empty tt refl far

pub method-faultless : (n : Names) → n.wide ≡ all_wide → HideNoConstant n → (m : MethodTree) → AreProperStatements m.body → ((f : Fault) → ¬ IsMethodFault n m f) → (f : Fault) → ¬ IsMethodFault n (rebodied m (folded_body (constants_in n.constants) m.body)) f
method-faultless n wide hides m proper clean f (jump_too_far place has is) =
    let far = none-in (method_code n m.body).too_far (λ at there. clean (fault JumpTooFar at) (jump_too_far at there refl)) in
    never-in (method_code n (folded_body (constants_in n.constants) m.body)).too_far place (method-near n wide hides m.body proper far) has
method-faultless n wide hides m proper clean f (frame_too_large large is) = clean f (frame_too_large large is)
method-faultless n wide hides m proper clean f (holds_too_much much is) =
    let held = method-held n wide hides m.body in
    clean f (holds_too_much (omega (arith, much, held)) is)
