-- What the names of a method mean to its code, and which of its jumps are wide.
use Rattle.std.specs.Prelude.{ℕ, Bool, true, List, Option, unwrap_or, slice_get}
use Rattle.p8_tree.specs.declared.places.Place.{Place}
use Rattle.p8_fold.specs.Meanings.{Setting}
use Rattle.p8_kinds.specs.declared.name_kinds.NameKind.{NameKind}

pub record Names : Type 0 where
  -- what a name is: RESULT, a parameter, a result or a local of the method, or else a name of the file
  pub kind : List ℕ → Option NameKind
  -- what a PUB of an object's file is, by the object's number among the items of OBJ
  pub public : ℕ → List ℕ → Option NameKind
  -- what names mean where a constant is needed
  pub constants : Setting
  -- the offset of a label in the object
  pub label : List ℕ → ℕ
  -- the offset in the object of the text that stands at this place of the source
  pub text : Place → ℕ
  -- which jumps of the method have two bytes for their offset, by their numbers, counted from 0 in the order in which they are written
  pub wide : ℕ → Bool
  -- the statement at hand
  pub statement : Place

-- every jump is wide
abbrev pub all_wide : ℕ → Bool
all_wide number = true

-- the choice that a list tells; a jump past its end is wide
abbrev pub wide_in : List Bool → ℕ → Bool
wide_in widths number = unwrap_or (slice_get widths number) true

-- the same names, with this choice of wide jumps
abbrev pub widened : Names → (ℕ → Bool) → Names
widened names wide = record names { wide = wide }

-- the same names, with texts elsewhere, in another statement
abbrev pub moved : Names → (Place → ℕ) → Place → Names
moved names texts place = record names { text = texts; statement = place }
