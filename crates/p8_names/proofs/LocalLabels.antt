-- Local labels that are entered up to the next other label, and the scope that sees them.
use Rattle.std.proofs.Common.{◌≡◌, ℕ, Bool, true, false, ◌<◌, ◌≤◌, List, Option, Some, None, refl, ap, ◌∙◌, arith}
use Rattle.std.specs.Prelude.{if◌then◌else◌, not}
use Rattle.p8_tree.specs.Names.{is_local}
use Rattle.p8_fold.specs.ConstantEntries.{setting_of}
use Rattle.p8_constants.specs.FileItems.{Item}
use Rattle.p8_kinds.specs.declared.kinds.Kinds.{Kinds}
use Rattle.p8_kinds.specs.declared.scope.Scope.{Scope}
use Rattle.p8_kinds.specs.Environments.{environment_of}
use Rattle.p8_kinds.specs.Kinds.{own, or_else}
use Rattle.p8_names.specs.Faults.{labels_ahead, labels_at, local_label}
use Rattle.p8_names.specs.Regions.{environment_at, is_end, HasLabels, IsInRegion}
use Rattle.p8_names.proofs.Equal.{environments_equal}

-- a label that isn't local begins anew
at_end_by : (b : Bool) (region next : List (List ℕ)) → not b ≡ true → next ≡ (if b then region else next)
at_end_by true region next e = absurd cc
at_end_by false region next e = refl

pub at_end : (o : Option (List ℕ)) (region : List (List ℕ)) (behind : List Item) → is_end o ≡ true → labels_ahead behind ≡ labels_at region o behind
at_end None region behind e = absurd cc
at_end (Some m) region behind e = at_end_by (is_local m) region (labels_ahead behind) e

-- the kinds tell all labels by now, or else those that are left
pub record IsEntering (old now : Kinds) (number : ℕ) (all left : List (List ℕ)) : Type 0 where
  pub here : (n : List ℕ) → local_label all n ≡ or_else (own now number n) (local_label left n)
  pub others : (m : ℕ) (n : List ℕ) → ¬ (m ≡ number) → own now m n ≡ own old m n

-- the first region
pub region_first : (initial : Scope) (entered : Kinds) (number : ℕ) (region : List (List ℕ)) → ((m : ℕ) (n : List ℕ) → number ≤ m → own initial.kinds m n ≡ None) → HasLabels initial.kinds entered number region → IsInRegion initial (record { kinds = entered; number = number; publics = initial.publics; consts = initial.consts }) number region
region_first initial entered number region free h = record {
  labels = h.here;
  above = λ m n l. h.others m n (λ e. omega (arith, e, l)) ∙ free m n (omega (arith, l));
  below = λ m n l. h.others m n (λ e. omega (arith, e, l));
  number = omega arith;
  publics = refl;
  consts = refl;
}

-- what the scope knows
pub known_is : (initial now : Scope) (first : ℕ) (region : List (List ℕ)) → 0 < first → IsInRegion initial now first region → environment_of now ≡ environment_at initial.kinds initial.publics (setting_of initial.consts) region
known_is initial now first region p h =
    environments_equal (environment_of now) (environment_at initial.kinds initial.publics (setting_of initial.consts) region)
    (λ n. ap (λ o. or_else o (own now.kinds 0 n)) (h.labels n) ∙ ap (or_else (local_label region n)) (h.below 0 n p))
    (λ item n. ap (λ k. own k item n) h.publics)
    (ap setting_of h.consts)
