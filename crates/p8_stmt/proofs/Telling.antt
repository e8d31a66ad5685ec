-- The faults of a method, as a set and as a list.
use Rattle.std.proofs.Common.{◌≡◌, inl, inr, ℕ, ◌+◌, ◌<◌, ◌||◌, nat_lt, Bool, true, false, if◌then◌else◌, List, [], ◌∷◌, map, length, get_or, refl, sym, ap, ◌∙◌, subst, arith}
use Rattle.std.specs.Prelude.{Contains}
use Rattle.std.proofs.lemmas.Bool.Decides.{nat_tests}
use Rattle.std.proofs.lemmas.List.{get_or-map, length-map}
use Rattle.std.proofs.lemmas.List.Elements.{Contains-get_or, Contains-append_left, Contains-append_right, Contains-append_cases}
use Rattle.p8_tree.specs.declared.places.Place.{Place}
use Rattle.p8_tree.specs.Sources.{MethodTree}
use Rattle.p8_tree.specs.declared.faults.Fault.{Fault}
use Rattle.p8_tree.specs.Faults.{fault}
use Rattle.p8_tree.specs.declared.refusal.Refusal.TheVariants.{JumpTooFar, FrameTooLarge}
use Rattle.p8_gen.specs.Depths.{held_in}
use Rattle.p8_gen.specs.Methods.{method_code}
use Rattle.p8_gen.specs.Names.{Names}
use Rattle.p8_stmt.specs.Methods.{longs_in, most_longs, most_held, IsMethodFault, jump_too_far, frame_too_large, holds_too_much}
use Rattle.p8_stmt.specs.Telling.{faults_of}

told_place : (ps : List Place) (g : Fault) → Contains (map (fault JumpTooFar) ps) g → (p : Place) × Contains ps p × (fault JumpTooFar p ≡ g)
told_place ps g (k, lt, is) =
    let within : k < length ps = subst (λ n. k < n) (length-map ps (fault JumpTooFar)) lt in
    (get_or ps k g.place, Contains-get_or ps k g.place within, sym (get_or-map (fault JumpTooFar) ps k g.place g within) ∙ is)

place_told : (ps : List Place) (p : Place) → Contains ps p → Contains (map (fault JumpTooFar) ps) (fault JumpTooFar p)
place_told ps p (k, lt, is) =
    (k, subst (λ n. k < n) (sym (length-map ps (fault JumpTooFar))) lt, get_or-map (fault JumpTooFar) ps k p (fault JumpTooFar p) lt ∙ ap (fault JumpTooFar) is)

only : (f g : Fault) → Contains (f ∷ []) g → f ≡ g
only f g (k, lt, is) = let first : k ≡ 0 = omega arith in rw first at is

no_both : true ≡ false → ⊥
no_both h = absurd cc

-- a number is one that a test lets through
passes : (a b : ℕ) → nat_lt a b ≡ true → a < b
passes a b h = grind (arith, nat_tests)

module _ (n : Names) (m : MethodTree) (frame held : ℕ) (f_is : frame ≡ 1 + length m.params + longs_in n.constants m.locals) (h_is : held ≡ held_in n m.body) where
  name_fault : (large : Bool) → large ≡ (nat_lt most_longs frame || nat_lt most_held held) → (g : Fault) → Contains (if large then fault FrameTooLarge m.place ∷ [] else []) g → IsMethodFault n m g
  name_fault false is g (k, lt, same) = absurd (omega arith)
  name_fault true is g c = go (nat_lt most_longs frame) (nat_lt most_held held) refl refl
    where
      go : (t u : Bool) → nat_lt most_longs frame ≡ t → nat_lt most_held held ≡ u → IsMethodFault n m g
      go true u x y = frame_too_large (subst (λ k. most_longs < k) f_is (passes most_longs frame x)) (only (fault FrameTooLarge m.place) g c)
      go false true x y = holds_too_much (subst (λ k. most_held < k) h_is (passes most_held held y)) (only (fault FrameTooLarge m.place) g c)
      go false false x y = absurd (no_both (is ∙ ap (λ t. t || nat_lt most_held held) x ∙ y))

  pub to_fault : (large : Bool) → large ≡ (nat_lt most_longs frame || nat_lt most_held held) → (g : Fault) → Contains (faults_of (method_code n m.body).too_far m.place large) g → IsMethodFault n m g
  to_fault large is g c =
      elim (Contains-append_cases (map (fault JumpTooFar) (method_code n m.body).too_far) (if large then fault FrameTooLarge m.place ∷ [] else []) g c) [
        | inl a ↦ let p = told_place (method_code n m.body).too_far g a in jump_too_far p.0 p.1 p.2
        | inr b ↦ name_fault large is g b
      ]

  at_name : (large : Bool) → large ≡ true → Contains (if large then fault FrameTooLarge m.place ∷ [] else []) (fault FrameTooLarge m.place)
  at_name true h = (0, omega arith, refl)
  at_name false h = absurd cc

  pub from_fault : (large : Bool) → large ≡ (nat_lt most_longs frame || nat_lt most_held held) → (g : Fault) → IsMethodFault n m g → Contains (faults_of (method_code n m.body).too_far m.place large) g
  from_fault large is g (jump_too_far p c same) =
      subst (λ x. Contains (faults_of (method_code n m.body).too_far m.place large) x) same
      (Contains-append_left (map (fault JumpTooFar) (method_code n m.body).too_far) (if large then fault FrameTooLarge m.place ∷ [] else []) (fault JumpTooFar p) (place_told (method_code n m.body).too_far p c))
  from_fault large is g (frame_too_large lt same) =
      subst (λ x. Contains (faults_of (method_code n m.body).too_far m.place large) x) same
      (Contains-append_right (map (fault JumpTooFar) (method_code n m.body).too_far) (if large then fault FrameTooLarge m.place ∷ [] else []) (fault FrameTooLarge m.place)
      (at_name large (let over : most_longs < frame = subst (λ k. most_longs < k) (sym f_is) lt in grind (arith, nat_tests))))
  from_fault large is g (holds_too_much lt same) =
      subst (λ x. Contains (faults_of (method_code n m.body).too_far m.place large) x) same
      (Contains-append_right (map (fault JumpTooFar) (method_code n m.body).too_far) (if large then fault FrameTooLarge m.place ∷ [] else []) (fault FrameTooLarge m.place)
      (at_name large (let over : most_held < held = subst (λ k. most_held < k) (sym h_is) lt in grind (arith, nat_tests))))
