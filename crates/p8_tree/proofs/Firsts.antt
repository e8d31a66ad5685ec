-- First faults: of two sets together, of sets with the same faults, and of a list with one more at its end.
use Rattle.std.proofs.Common.{◌≡◌, ◌⊎◌, ◌<◌, ◌+◌, Option, None, Some, List, [], ◌∷◌, ◌++◌, ℕ, length, take, get_or, refl, ap, ◌∙◌, subst, arith}
use Rattle.std.specs.Prelude.{Contains, MatchOption}
use Rattle.std.proofs.lemmas.Bool.Decides.{nat_tests}
use Rattle.std.proofs.lemmas.List.{take_more}
use Rattle.std.proofs.Math.Logic.{⊎_elim}
use Rattle.std.proofs.lemmas.List.Elements.{Contains-append_left, Contains-append_right, Contains-append_cases}
use Rattle.p8_tree.specs.declared.faults.Fault.{Fault}
use Rattle.p8_tree.specs.Faults.{FaultBefore, earlier, IsFirstFault}

pub IsFirstFault-along : {S T : Fault → Type 0} {f : Fault} → ((x : Fault) → S x → T x) → ((x : Fault) → T x → S x) → IsFirstFault S f → IsFirstFault T f
IsFirstFault-along to from h = record { holds = to _ h.holds; first = λ g t. h.first g (from g t) }

pub IsFirstFault-earlier : (S T : Fault → Type 0) (f g : Fault) → IsFirstFault S f → IsFirstFault T g → IsFirstFault (λ x. S x ⊎ T x) (earlier f g)
IsFirstFault-earlier S T f g s t = grind (arith, nat_tests)

one_fault : (f g : Fault) → Contains (f ∷ []) g → f ≡ g
one_fault f g (k, lt, is) = let first : k ≡ 0 = omega arith in rw first at is

pub IsFirstFault-one : (f : Fault) → IsFirstFault (Contains (f ∷ [])) f
IsFirstFault-one f = record {
  holds = (0, omega arith, refl);
  first = λ g c. let same : f ≡ g = one_fault f g c in subst (λ x. ¬ FaultBefore x f) same (λ b. absurd (grind arith));
}

pub IsFirstFault-push : (fs : List Fault) (f g : Fault) → IsFirstFault (Contains fs) f → IsFirstFault (Contains (fs ++ g ∷ [])) (earlier f g)
IsFirstFault-push fs f g h =
    IsFirstFault-along (λ x. ⊎_elim (λ a. Contains-append_left fs (g ∷ []) x a) (λ b. Contains-append_right fs (g ∷ []) x b)) (Contains-append_cases fs (g ∷ []))
    (IsFirstFault-earlier (Contains fs) (Contains (g ∷ [])) f g h (IsFirstFault-one g))

-- the first fault of a list, or none where it is empty
abbrev pub IsFirstOf : List Fault → Option Fault → Type 0
IsFirstOf fs o = MatchOption o (fs ≡ []) (IsFirstFault (Contains fs))

pub IsFirstOf-one : (fs : List Fault) (i : ℕ) (d : Fault) {o r : Option Fault} → i < length fs → IsFirstOf (take i fs) o → o ≡ None → r ≡ Some (get_or fs i d) → IsFirstOf (take (i + 1) fs) r
IsFirstOf-one fs i d lt h none is =
    let empty : take i fs ≡ [] = rw none at h in
    let next : take (i + 1) fs ≡ get_or fs i d ∷ [] = take_more fs i d lt ∙ ap (λ xs. xs ++ get_or fs i d ∷ []) empty in
    rw (is, next) (IsFirstFault-one (get_or fs i d))

pub IsFirstOf-more : (fs : List Fault) (i : ℕ) (d found : Fault) {o r : Option Fault} → i < length fs → IsFirstOf (take i fs) o → o ≡ Some found → r ≡ Some (earlier found (get_or fs i d)) → IsFirstOf (take (i + 1) fs) r
IsFirstOf-more fs i d found lt h some is =
    let first : IsFirstFault (Contains (take i fs)) found = rw some at h in
    rw (is, take_more fs i d lt) (IsFirstFault-push (take i fs) found (get_or fs i d) first)
