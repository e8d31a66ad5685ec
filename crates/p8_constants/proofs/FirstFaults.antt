-- The first fault of a set that is gone through part by part.
use Rattle.std.proofs.Common.{◌≡◌, ◌⊎◌, inl, inr, Option, Some, None, Bool, true, false, refl, sym, subst, arith}
use Rattle.std.proofs.lemmas.Bool.Decides.{nat_tests}
use Rattle.p8_tree.specs.declared.faults.Fault.{Fault}
use Rattle.p8_tree.specs.Faults.{FaultBefore, IsFirstFault, earlier, comes_before, first_of_two}
use Rattle.std.proofs.lemmas.Bool.{cases_Bool}
use Rattle.std.specs.Prelude.{if◌then◌else◌, IsTrue, ◌↔◌}
use Rattle.p8_fold.specs.Values.{where_so}
use Rattle.p8_constants.specs.Standing.{IsFirstOf}

-- a fault isn't before what was found
abbrev pub IsNotBefore : Option Fault → Fault → Type 0
IsNotBefore None g = ⊥
IsNotBefore (Some f) g = ¬ FaultBefore g f

abbrev pub IsFound : (Fault → Type 0) → Option Fault → Type 0
IsFound Whole None = Unit {0}
IsFound Whole (Some f) = Whole f

-- what was found is a fault of the whole, and none of the whole comes before it but for those that are left
pub record IsSoFar (Whole : Fault → Type 0) (found : Option Fault) (Left : Fault → Type 0) : Type 0 where
  pub holds : IsFound Whole found
  pub first : (g : Fault) → Whole g → IsNotBefore found g ⊎ Left g
  pub within : (g : Fault) → Left g → Whole g

pub so_far_begin : (Whole : Fault → Type 0) → IsSoFar Whole None Whole
so_far_begin Whole = record { holds = tt; first = λ g w. inr w; within = λ g w. w }

pub so_far_end : {Whole Left : Fault → Type 0} (found : Option Fault) → ((g : Fault) → ¬ Left g) → IsSoFar Whole found Left → IsFirstOf found Whole
so_far_end None none h = λ f w. elim (h.first f w) [ inl b ↦ b | inr l ↦ none f l ]
so_far_end (Some f) none h = record { holds = h.holds; first = λ g w. elim (h.first g w) [ inl b ↦ b | inr l ↦ absurd (none g l) ] }

-- what isn't before one of two faults isn't before the earlier one, or it is the other way round
still_none : (f g x : Fault) → ¬ FaultBefore x f → ¬ FaultBefore x (earlier f g)
still_none f g x h = grind (arith, nat_tests)

still_none_right : (f g x : Fault) → ¬ FaultBefore x g → ¬ FaultBefore x (earlier f g)
still_none_right f g x h = grind (arith, nat_tests)

found_more : (Whole : Fault → Type 0) (f g : Fault) → Whole f → Whole g → Whole (earlier f g)
found_more Whole f g a b =
    elim (cases_Bool (comes_before g f)) [
      | inl is_so ↦ subst (λ t. Whole (if t then g else f)) (sym is_so) b
      | inr not_so ↦ subst (λ t. Whole (if t then g else f)) (sym not_so) a
    ]

holds_more : (Whole Own : Fault → Type 0) (found next : Option Fault) → ((g : Fault) → Own g → Whole g) → IsFound Whole found → IsFirstOf next Own → IsFound Whole (first_of_two found next)
holds_more Whole Own None None to h n = tt
holds_more Whole Own None (Some g) to h n = to g n.holds
holds_more Whole Own (Some f) None to h n = h
holds_more Whole Own (Some f) (Some g) to h n = found_more Whole f g h (to g n.holds)

first_more : (Own : Fault → Type 0) (found next : Option Fault) (x : Fault) → IsFirstOf next Own → IsNotBefore found x ⊎ Own x → IsNotBefore (first_of_two found next) x
first_more Own None None x n (inl b) = absurd b
first_more Own None None x n (inr o) = absurd (n x o)
first_more Own None (Some g) x n (inl b) = absurd b
first_more Own None (Some g) x n (inr o) = n.first x o
first_more Own (Some f) None x n (inl b) = b
first_more Own (Some f) None x n (inr o) = absurd (n x o)
first_more Own (Some f) (Some g) x n (inl b) = still_none f g x b
first_more Own (Some f) (Some g) x n (inr o) = still_none_right f g x (n.first x o)

-- one part more
pub so_far_more : {Whole Own Left : Fault → Type 0} (found next : Option Fault) → IsSoFar Whole found (λ g. Own g ⊎ Left g) → IsFirstOf next Own → IsSoFar Whole (first_of_two found next) Left
so_far_more {Whole = Whole} {Own = Own} {Left = Left} found next h n = record {
  holds = holds_more Whole Own found next (λ g o. h.within g (inl o)) h.holds n;
  first = λ g w. elim (h.first g w) [
    | inl b ↦ inl (first_more Own found next g n (inl b))
    | inr l ↦ elim l [ inl o ↦ inl (first_more Own found next g n (inr o)) | inr later ↦ inr later ]
  ];
  within = λ g l. h.within g (inr l);
}

-- the same faults are left
pub so_far_same : {Whole Left Other : Fault → Type 0} (found : Option Fault) → ((g : Fault) → Left g → Other g) → ((g : Fault) → Other g → Left g) → IsSoFar Whole found Left → IsSoFar Whole found Other
so_far_same found to from h = record {
  holds = h.holds;
  first = λ g w. elim (h.first g w) [ inl b ↦ inl b | inr l ↦ inr (to g l) ];
  within = λ g o. h.within g (from g o);
}

-- one fault, where it is so
one_first : (P : Type 0) (f : Fault) → P → IsFirstFault (λ g. P × (f ≡ g)) f
one_first P f p = record {
  holds = (p, refl);
  first = λ g e. subst (λ x. ¬ FaultBefore x f) e.1 (λ b. absurd (grind arith));
}

pub where_so_first : (P : Type 0) (b : Bool) (f : Fault) → IsTrue b ↔ P → IsFirstOf (where_so b f) (λ g. P × (f ≡ g))
where_so_first P true f h = one_first P f (h.0 refl)
where_so_first P false f h = λ g e. let t = h.1 e.0 in absurd cc

-- one part more, and what is found then
pub so_far_then : {Whole Own Left : Fault → Type 0} (found next : Option Fault) {now : Option Fault} → IsSoFar Whole found (λ g. Own g ⊎ Left g) → IsFirstOf next Own → now ≡ first_of_two found next → IsSoFar Whole now Left
so_far_then {Whole = Whole} {Left = Left} found next h own is = subst (λ o. IsSoFar Whole o Left) (sym is) (so_far_more found next h own)
