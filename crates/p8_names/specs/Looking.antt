-- internal: what is known while a method is looked at.
use Rattle.std.specs.Prelude.{◌≡◌, ◌⊎◌, ℕ, List, option_map}
use Rattle.std.specs.Map.{lookup}
use Rattle.std.specs.Str.{bytes_eq}
use Rattle.p8_tree.specs.Sources.{MethodTree}
use Rattle.p8_tree.specs.declared.faults.Fault.{Fault}
use Rattle.p8_fold.specs.Meanings.{Setting}
use Rattle.p8_kinds.specs.declared.kinds.Kinds.{Kinds}
use Rattle.p8_kinds.specs.Environments.{Environment}
use Rattle.p8_kinds.specs.FileSettings.{meaning_of_kind}
use Rattle.p8_kinds.specs.Kinds.{own, or_else}
use Rattle.p8_kinds.specs.Misuses.{MisuseInStatements}
use Rattle.p8_names.specs.Kinds.{own_kinds, method_setting}
use Rattle.p8_names.specs.Faults.{FaultInLocals}

-- each name means what it should by the kinds of the whole file
abbrev pub IsShown : Kinds → Setting → Type 0
IsShown kinds s = (n : List ℕ) → s.name n ≡ option_map meaning_of_kind (own kinds 0 n)

-- what is known of names in a method, by the kinds of the whole file
abbrev pub environment_in : Kinds → Kinds → Setting → MethodTree → Environment
environment_in kinds publics s m = record {
  kind = λ n. or_else (lookup (bytes_eq n) (own_kinds s m)) (own kinds 0 n);
  public = λ item n. own publics item n;
  constants = method_setting s m;
}

abbrev pub IsFaultIn : Kinds → Kinds → Setting → MethodTree → Fault → Type 0
IsFaultIn kinds publics s m f = FaultInLocals (method_setting s m) m.locals f ⊎ MisuseInStatements (environment_in kinds publics s m) m.body f

-- the own names of a method stand at its number, and no other number has changed
pub record HasOwnKinds (old new : Kinds) (number : ℕ) (s : Setting) (m : MethodTree) : Type 0 where
  pub here : (n : List ℕ) → own new number n ≡ lookup (bytes_eq n) (own_kinds s m)
  pub others : (k : ℕ) (n : List ℕ) → ¬ (k ≡ number) → own new k n ≡ own old k n
