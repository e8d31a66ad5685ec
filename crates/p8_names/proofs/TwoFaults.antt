-- The first fault of two sets.
use Rattle.std.proofs.Common.{◌≡◌, ◌⊎◌, inl, inr, Option, None, refl}
use Rattle.p8_tree.specs.declared.faults.Fault.{Fault}
use Rattle.p8_tree.specs.Faults.{first_of_two}
use Rattle.p8_constants.specs.Standing.{IsFirstOf}
use Rattle.p8_constants.proofs.FirstFaults.{IsSoFar, so_far_begin, so_far_then, so_far_same, so_far_end}

or_nothing : {A : Type 0} → A ⊎ ⊥ → A
or_nothing (inl a) = a
or_nothing (inr b) = absurd b

pub two_first : (S T : Fault → Type 0) (a b : Option Fault) {r : Option Fault} → r ≡ first_of_two a b → IsFirstOf a S → IsFirstOf b T → IsFirstOf r (λ f. S f ⊎ T f)
two_first S T a b {r = r} is s t =
    let one : IsSoFar (λ f. S f ⊎ T f) a T = so_far_then {Own = S} {Left = T} None a (so_far_begin (λ f. S f ⊎ T f)) s refl in
    let ready : IsSoFar (λ f. S f ⊎ T f) a (λ f. T f ⊎ ⊥) = so_far_same a (λ g x. inl x) (λ g. or_nothing) one in
    let two : IsSoFar (λ f. S f ⊎ T f) r (λ f. ⊥) = so_far_then {Own = T} {Left = λ f. ⊥} a b ready t is in
    so_far_end r (λ g l. l) two
