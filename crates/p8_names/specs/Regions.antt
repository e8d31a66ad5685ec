-- internal: what is known while the lines of DAT are gone through.
use Rattle.std.specs.Prelude.{◌≡◌, ◌⊎◌, ℕ, ◌<◌, ◌≤◌, Bool, false, not, if◌then◌else◌, List, Option, Some, None}
use Rattle.p8_tree.specs.Sources.{Datum}
use Rattle.p8_tree.specs.declared.faults.Fault.{Fault}
use Rattle.p8_tree.specs.Names.{is_local}
use Rattle.p8_fold.specs.Meanings.{Setting}
use Rattle.p8_kinds.specs.declared.kinds.Kinds.{Kinds}
use Rattle.p8_kinds.specs.declared.name_kinds.NameKind.TheVariants as kind
use Rattle.p8_kinds.specs.declared.scope.Scope.{Scope}
use Rattle.p8_kinds.specs.Environments.{Environment}
use Rattle.p8_kinds.specs.Kinds.{own, or_else}
use Rattle.p8_kinds.specs.Misuses.{UnknownIn}
use Rattle.p8_names.specs.Settings.{has_name}
use Rattle.p8_names.specs.Faults.{local_label, count_of_datum, UnknownInOption}

-- what is known of names in DAT, by the kinds of the whole file
abbrev pub environment_at : Kinds → Kinds → Setting → List (List ℕ) → Environment
environment_at kinds publics s region = record {
  kind = λ n. or_else (local_label region n) (own kinds 0 n);
  public = λ item n. own publics item n;
  constants = s;
}

-- the names of one datum
abbrev pub UnknownInDatum : Environment → Datum → Fault → Type 0
UnknownInDatum env d f = UnknownIn env d.value f ⊎ UnknownInOption env (count_of_datum d.value d.count) f

-- whether a label ends what local labels before it belong to
abbrev pub is_end : Option (List ℕ) → Bool
is_end None = false
is_end (Some n) = not (is_local n)

-- a label's kind at a number, where there is a label and it had none
pub record IsLabelEntered (old new : Kinds) (number : ℕ) (o : Option (List ℕ)) : Type 0 where
  pub here : (n : List ℕ) → own new number n ≡ or_else (own old number n) (if has_name o n then Some (kind.Label 4) else None)
  pub others : (m : ℕ) (n : List ℕ) → ¬ (m ≡ number) → own new m n ≡ own old m n

-- these local labels stand at a number, and no other number has changed
pub record HasLabels (old new : Kinds) (number : ℕ) (region : List (List ℕ)) : Type 0 where
  pub here : (n : List ℕ) → own new number n ≡ local_label region n
  pub others : (m : ℕ) (n : List ℕ) → ¬ (m ≡ number) → own new m n ≡ own old m n

-- a scope sees these local labels, at its number; nothing stands above it, and below the first number all is as it was
pub record IsInRegion (initial now : Scope) (first : ℕ) (region : List (List ℕ)) : Type 0 where
  pub labels : (n : List ℕ) → own now.kinds now.number n ≡ local_label region n
  pub above : (m : ℕ) (n : List ℕ) → now.number < m → own now.kinds m n ≡ None
  pub below : (m : ℕ) (n : List ℕ) → m < first → own now.kinds m n ≡ own initial.kinds m n
  pub number : first ≤ now.number
  pub publics : now.publics ≡ initial.publics
  pub consts : now.consts ≡ initial.consts
