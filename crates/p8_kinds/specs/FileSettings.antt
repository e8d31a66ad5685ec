-- What the names of a whole file mean where a constant is needed, by their kinds: a constant has its value, and an object the
-- constants of its file after `#`; other names are no constants (Propeller Manual v1.2, "CON" and "OBJ" of the Spin chapter).
use Rattle.std.specs.Prelude.{◌≡◌, ℕ, List, [], ◌∷◌, Option, Some, None, if◌then◌else◌, slice_get, option_map}
use Rattle.std.specs.Option.{option_or}
use Rattle.std.specs.Str.{bytes_eq}
use Rattle.p8_fold.specs.declared.meanings.Meaning.{Meaning}
use Rattle.p8_fold.specs.declared.meanings.Meaning.TheVariants as meaning_case
use Rattle.p8_fold.specs.Meanings.{Setting, outside_operands}
use Rattle.p8_kinds.specs.declared.children.Child.{Child}
use Rattle.p8_kinds.specs.declared.children.ChildConst.{ChildConst}
use Rattle.p8_kinds.specs.declared.children.Children.{Children}
use Rattle.p8_kinds.specs.declared.kinds.Kinds.{Kinds}
use Rattle.p8_kinds.specs.declared.name_kinds.NameKind.{NameKind}
use Rattle.p8_kinds.specs.declared.name_kinds.NameKind.TheVariants as kind
use Rattle.p8_kinds.specs.Entries.{Names, at_bytes}
use Rattle.p8_kinds.specs.Kinds.{own}

abbrev pub meaning_of_kind : NameKind → Meaning
meaning_of_kind (kind.Const v) = meaning_case.Value v
meaning_of_kind (kind.Object item position count) = meaning_case.Object
meaning_of_kind k = meaning_case.Other

-- a constant by its name
abbrev pub named_constant : ChildConst → List ℕ → Option Meaning
named_constant c name = if bytes_eq name c.name then Some (meaning_case.Value c.value) else None

-- of two constants with one name the first counts
abbrev pub constant_among : List ChildConst → List ℕ → Option Meaning
constant_among [] name = None
constant_among (c ∷ cs) name = option_or (named_constant c name) (constant_among cs name)

abbrev pub constant_in : Option Child → List ℕ → Option Meaning
constant_in None name = None
constant_in (Some child) name = constant_among child.consts name

-- a constant after `#`, by the kind of the name before it
abbrev pub constant_behind : Children → Option NameKind → List ℕ → Option Meaning
constant_behind children (Some (kind.Object item position count)) name = constant_in (slice_get children.items item) name
constant_behind children k name = None

abbrev pub file_setting : Kinds → Children → Setting
file_setting kinds children = record {
  name = λ n. option_map meaning_of_kind (own kinds 0 n);
  constant = λ object n. constant_behind children (own kinds 0 object) n;
  here = outside_operands None;
}

-- ---- a table on its way, for the code that makes it

-- an object has got further constants, and nothing else has changed
pub record HasEntered (s t : Setting) (object : List ℕ) (further : List ℕ → Option Meaning) : Type 0 where
  pub names : (n : List ℕ) → t.name n ≡ s.name n
  pub constants : (n : List ℕ) → t.constant object n ≡ option_or (s.constant object n) (further n)
  pub others : (o n : List ℕ) → ¬ (o ≡ object) → t.constant o n ≡ s.constant o n
  pub here : t.here ≡ s.here

-- a name has got its meaning and what stands after it, and nothing else has changed
pub record HasMeaning (s t : Setting) (name : List ℕ) (k : NameKind) (children : Children) : Type 0 where
  pub named : t.name name ≡ Some (meaning_of_kind k)
  pub others : (n : List ℕ) → ¬ (n ≡ name) → t.name n ≡ s.name n
  pub constants : (n : List ℕ) → t.constant name n ≡ option_or (s.constant name n) (constant_behind children (Some k) n)
  pub other_objects : (o n : List ℕ) → ¬ (o ≡ name) → t.constant o n ≡ s.constant o n
  pub here : t.here ≡ s.here

-- what names mean by a map of their kinds
pub record IsSettingOf (names : Names) (children : Children) (s : Setting) : Type 0 where
  pub named : (n : List ℕ) → s.name n ≡ option_map meaning_of_kind (at_bytes n names)
  pub constants : (object n : List ℕ) → s.constant object n ≡ constant_behind children (at_bytes object names) n
