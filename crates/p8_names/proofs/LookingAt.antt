-- A method is looked at.
use Rattle.std.proofs.Common.{◌≡◌, ◌⊎◌, inl, inr, ℕ, ◌<◌, List, Option, Some, None, refl, ap, sym, ◌∙◌, subst, arith}
use Rattle.std.proofs.lemmas.Bool.{cases_Bool}
use Rattle.std.specs.Prelude.{if◌then◌else◌, option_map}
use Rattle.std.specs.Map.{lookup}
use Rattle.std.specs.Str.{bytes_eq}
use Rattle.p8_tree.specs.Sources.{MethodTree}
use Rattle.p8_fold.specs.declared.meanings.Meaning.TheVariants.{Other}
use Rattle.p8_fold.specs.Meanings.{Setting}
use Rattle.p8_constants.specs.Names.{spelled, own_names}
use Rattle.p8_kinds.specs.declared.kinds.Kinds.{Kinds}
use Rattle.p8_kinds.specs.FileSettings.{meaning_of_kind}
use Rattle.p8_kinds.specs.Kinds.{own, or_else, kind_of}
use Rattle.p8_tree.specs.declared.faults.Fault.{Fault}
use Rattle.p8_constants.specs.Standing.{IsFirstOf}
use Rattle.p8_kinds.specs.Environments.{Environment}
use Rattle.p8_kinds.specs.Misuses.{MisuseInStatements}
use Rattle.p8_names.specs.Faults.{FaultInLocals}
use Rattle.p8_names.specs.Settings.{is_one_of}
use Rattle.p8_names.specs.Kinds.{own_kinds, frame_kinds, method_setting}
use Rattle.p8_names.specs.Changes.{HasNames}
use Rattle.p8_names.specs.Counting.{AreEnteredAt}
use Rattle.p8_names.specs.Looking.{IsShown, IsFaultIn, HasOwnKinds, environment_in}
use Rattle.p8_names.proofs.Showing.{hidden, Shown}
use Rattle.p8_names.proofs.Equal.{settings_equal, environments_equal}

-- the table that hides a method's own names is the method's setting
pub hidden_is : (s t : Setting) (m : MethodTree) (names : List (List ℕ)) → names ≡ spelled (own_names m) → HasNames s t (hidden s names) → t ≡ method_setting s m
hidden_is s t m names e h = settings_equal t (method_setting s m) (λ n. h.names n ∙ ap (λ ns. hidden s ns n) e) h.constants h.here

-- the own names stand at the number
pub has_own : (old new : Kinds) (number : ℕ) (s t : Setting) (m : MethodTree) → t ≡ method_setting s m → ((n : List ℕ) → own old number n ≡ None) → AreEnteredAt old new number (frame_kinds t m) → HasOwnKinds old new number s m
has_own old new number s t m e free h = record {
  here = λ n. h.here n ∙ ap (λ o. or_else o (lookup (bytes_eq n) (frame_kinds t m))) (free n) ∙ ap (λ u. lookup (bytes_eq n) (frame_kinds u m)) e;
  others = h.others;
}

-- the whole file's names are as they were
pub file_same : (old new : Kinds) (number : ℕ) (s : Setting) (m : MethodTree) → 0 < number → HasOwnKinds old new number s m → (n : List ℕ) → own new 0 n ≡ own old 0 n
file_same old new number s m p h n = h.others 0 n (λ e. omega (arith, e))

pub kind_is : (old new : Kinds) (number : ℕ) (s : Setting) (m : MethodTree) → 0 < number → HasOwnKinds old new number s m → (n : List ℕ) → kind_of new number n ≡ or_else (lookup (bytes_eq n) (own_kinds s m)) (own old 0 n)
kind_is old new number s m p h n = ap (λ o. or_else o (own new 0 n)) (h.here n) ∙ ap (or_else (lookup (bytes_eq n) (own_kinds s m))) (file_same old new number s m p h n)

-- what is hidden is shown again
pub to_show : (old new : Kinds) (number : ℕ) (s t : Setting) (m : MethodTree) (names : List (List ℕ)) → 0 < number → HasOwnKinds old new number s m → IsShown old s → HasNames s t (hidden s names) → Shown (λ n. option_map meaning_of_kind (own new 0 n)) t names
to_show old new number s t m names p h shown hid n =
    elim (cases_Bool (is_one_of names n)) [
      | inl among ↦ inr among
      | inr apart ↦ inl (hid.names n ∙ ap (λ b. if b then Some Other else s.name n) apart ∙ shown n ∙ ap (option_map meaning_of_kind) (sym (file_same old new number s m p h n)))
    ]

pub shown_again : (old new : Kinds) (number : ℕ) (s t u : Setting) (m : MethodTree) (names : List (List ℕ)) → 0 < number → HasOwnKinds old new number s m → IsShown old s → HasNames s t (hidden s names) → HasNames t u (λ n. option_map meaning_of_kind (own new 0 n)) → u ≡ s
shown_again old new number s t u m names p h shown hid again =
    settings_equal u s (λ n. again.names n ∙ ap (option_map meaning_of_kind) (file_same old new number s m p h n) ∙ sym (shown n))
    (λ owner n. again.constants owner n ∙ hid.constants owner n) (again.here ∙ hid.here)

-- what a scope knows of names
abbrev pub known : Kinds → ℕ → Kinds → Setting → Environment
known kinds number publics s = record { kind = λ n. kind_of kinds number n; public = λ item n. own publics item n; constants = s }

pub fault_is : (old new publics : Kinds) (number : ℕ) (s t : Setting) (m : MethodTree) (told : Option Fault) → 0 < number → HasOwnKinds old new number s m → t ≡ method_setting s m → IsFirstOf told (λ f. FaultInLocals t m.locals f ⊎ MisuseInStatements (known new number publics t) m.body f) → IsFirstOf told (IsFaultIn old publics s m)
fault_is old new publics number s t m told p h e first =
    subst (λ env. IsFirstOf told (λ f. FaultInLocals env.constants m.locals f ⊎ MisuseInStatements env m.body f))
    (environments_equal (known new number publics t) (environment_in old publics s m) (kind_is old new number s m p h) (λ item n. refl) e) first
