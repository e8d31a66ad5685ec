-- internal: what one step changes in a table.
use Rattle.std.specs.Prelude.{◌≡◌, ℕ, List, map, Option, Some, None, if◌then◌else◌, option_map}
use Rattle.std.specs.Map.{lookup}
use Rattle.std.specs.Str.{bytes_eq}
use Rattle.p8_constants.specs.declared.name_set.NameSet.{NameSet}
use Rattle.p8_constants.specs.Standing.{Holds}
use Rattle.p8_kinds.specs.declared.children.Child.{Child}
use Rattle.p8_fold.specs.declared.meanings.Meaning.{Meaning}
use Rattle.p8_fold.specs.declared.meanings.Meaning.TheVariants as meaning_case
use Rattle.p8_fold.specs.Meanings.{Setting}
use Rattle.p8_names.specs.Settings.{has_name, constant_of_child}

-- with this meaning at a name, where there is one
pub record IsPut (s t : Setting) (o : Option (List ℕ)) (m : Option Meaning) : Type 0 where
  pub names : (n : List ℕ) → t.name n ≡ (if has_name o n then m else s.name n)
  pub constants : (owner n : List ℕ) → t.constant owner n ≡ s.constant owner n
  pub here : t.here ≡ s.here

-- with these meanings of names
pub record HasNames (s t : Setting) (f : List ℕ → Option Meaning) : Type 0 where
  pub names : (n : List ℕ) → t.name n ≡ f n
  pub constants : (owner n : List ℕ) → t.constant owner n ≡ s.constant owner n
  pub here : t.here ≡ s.here

-- a constant that the language defines, or else this
abbrev pub over : Option ℕ → Option Meaning → Option Meaning
over None m = m
over (Some v) m = Some (meaning_case.Value v)

-- a setting with these constants after an object's name, where it had none
pub record HasConstants (s t : Setting) (owner : List ℕ) (f : List ℕ → Option ℕ) : Type 0 where
  pub at : (n : List ℕ) → t.constant owner n ≡ over (f n) (s.constant owner n)
  pub others : (o n : List ℕ) → ¬ (o ≡ owner) → t.constant o n ≡ s.constant o n
  pub names : (n : List ℕ) → t.name n ≡ s.name n
  pub here : t.here ≡ s.here

-- a setting with the constants of these objects
abbrev pub HasConstantsOf : Setting → List (List ℕ × Child) → Type 0
HasConstantsOf s done = (owner n : List ℕ) → s.constant owner n ≡ option_map meaning_case.Value (constant_of_child (lookup (bytes_eq owner) done) n)

-- and a set with their names
pub record HasObjects (s : Setting) (seen : NameSet) (done : List (List ℕ × Child)) : Type 0 where
  pub constants : HasConstantsOf s done
  pub names : Holds seen (map (λ d. d.0) done)

-- names alone mean the same, and so does `$`
pub record IsSameOutside (s t : Setting) : Type 0 where
  pub names : (n : List ℕ) → t.name n ≡ s.name n
  pub here : t.here ≡ s.here

-- two settings say the same
pub record IsOutside (s t : Setting) : Type 0 where
  pub names : (n : List ℕ) → s.name n ≡ t.name n
  pub constants : (owner n : List ℕ) → s.constant owner n ≡ t.constant owner n
  pub here : s.here ≡ t.here
