-- What is known of names where a statement or an expression stands.
use Rattle.std.specs.Prelude.{ℕ, List, Option, Some, if◌then◌else◌}
use Rattle.std.specs.Str.{bytes_eq}
use Rattle.p8_tree.specs.Names.{result_word}
use Rattle.p8_fold.specs.Meanings.{Setting}
use Rattle.p8_fold.specs.ConstantEntries.{setting_of}
use Rattle.p8_kinds.specs.declared.name_kinds.NameKind.{NameKind}
use Rattle.p8_kinds.specs.declared.name_kinds.NameKind.TheVariants as kind_case
use Rattle.p8_kinds.specs.declared.scope.Scope.{Scope}
use Rattle.p8_kinds.specs.Kinds.{own, kind_of}

pub record Environment : Type 0 where
  -- what a name is
  pub kind : List ℕ → Option NameKind
  -- what a name after `.` is: a PUB of an object's file, by the object's number among the items of OBJ
  pub public : ℕ → List ℕ → Option NameKind
  -- what names mean where a constant is needed; here the constants after `#` have their entries
  pub constants : Setting

-- RESULT is a word and has no entry: it is the first long of the frame
abbrev pub kind_in : Environment → List ℕ → Option NameKind
kind_in env name = if bytes_eq name result_word then Some (kind_case.Local 0) else env.kind name

-- what a scope's tables say
abbrev pub environment_of : Scope → Environment
environment_of s = record {
  kind = λ name. kind_of s.kinds s.number name;
  public = λ item name. own s.publics item name;
  constants = setting_of s.consts;
}
