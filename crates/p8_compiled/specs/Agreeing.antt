-- When the tables of a code generator say what a project and its image say.
use Rattle.std.specs.Prelude.{◌≡◌, ℕ, ◌<◌, ◌^◌, IsTrue, false, List, Option, Some, None, if◌then◌else◌}
use Rattle.std.specs.Str.{bytes_eq}
use Rattle.p8_tree.specs.declared.places.Place.{Place}
use Rattle.p8_tree.specs.Names.{result_word}
use Rattle.p8_tree.specs.Expressions.{Tree}
use Rattle.p8_tree.specs.Proper.{is_size, IsProperTree}
use Rattle.p8_words.specs.Operators.{or_zero}
use Rattle.p8_fold.specs.Values.{value}
use Rattle.p8_kinds.specs.declared.name_kinds.NameKind.{NameKind}
use Rattle.p8_kinds.specs.declared.name_kinds.NameKind.TheVariants.{Const, Global, Local, Label, Method, Object}
use Rattle.p8_kinds.specs.Environments.{Environment}
use Rattle.p8_meaning.specs.Programs.{setting_of}
use Rattle.p8_gen.specs.Names.{Names}
use Rattle.p8_compiled.specs.Standing.{Compiled, Fits, IsObjectMethod}

-- RESULT is the first long of the frame, and any other name is what the file says
abbrev pub kind_in_method : Compiled → List ℕ → Option NameKind
kind_in_method t name = if bytes_eq name result_word then Some (Local 0) else t.file.kind t.method name

-- what a name's kind tells has room in code, and is so in the project
abbrev pub IsSound : Names → Compiled → List ℕ → NameKind → Type 0
IsSound n t name (Const v) = v < 2 ^ 32
IsSound n t name (Global size offset) = IsTrue (is_size size) × (offset < 2 ^ 15)
IsSound n t name (Local offset) = offset < 2 ^ 15
IsSound n t name (Label size) = IsTrue (is_size size) × (n.label name ≡ t.addresses.label t.number name) × (n.label name < 2 ^ 15)
IsSound n t name (Method number params) = (number < 2 ^ 8) × (params < 2 ^ 8) × Fits t.file number params
IsSound n t name (Object item position count) = (position < 2 ^ 8) × (0 < count) × (count < 2 ^ 8)

-- the names of a method, for a code generator and in a project with an image
pub record Agrees (n : Names) (t : Compiled) : Type 0 where
  pub kinds : (name : List ℕ) → n.kind name ≡ kind_in_method t name
  pub no_result : t.file.kind t.method result_word ≡ None
  pub sound : (name : List ℕ) (kind : NameKind) → n.kind name ≡ Some kind → IsSound n t name kind
  -- a PUB of an object's file
  pub publics : (item : ℕ) (method : List ℕ) (number params : ℕ) → n.public item method ≡ Some (Method number params) →
      (number < 2 ^ 8) × IsObjectMethod t item method params number
  -- what names mean where a constant is needed
  pub constants : (e : Tree) → value n.constants e ≡ value (setting_of t.file t.method) e
  pub words : (e : Tree) → IsProperTree false e → or_zero (value n.constants e) < 2 ^ 32
  -- where texts stand
  pub texts : (place : Place) → n.text place ≡ t.addresses.text t.number place
  pub near_texts : (place : Place) → n.text place < 2 ^ 15

-- what is known of the names, as their use is looked at
abbrev pub environment : Names → Environment
environment n = record { kind = n.kind; public = n.public; constants = n.constants }
