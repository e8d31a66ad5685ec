-- Where the parts of a project stand in the hub: the places that code, listings and debuggers speak of.
use Rattle.std.specs.Prelude.{ℕ, ◌+◌, ◌≡◌, List, [], ◌∷◌, ◌++◌, length, slice_get, slice_index, Some}
use Rattle.p8_image.specs.declared.clocks.Clock.{Clock}
use Rattle.p8_image.specs.declared.parts.MethodPart.{MethodPart}
use Rattle.p8_image.specs.declared.parts.ObjectPart.{ObjectPart}
use Rattle.p8_image.specs.Layout.{dat_offset, code_offset, text_offsets, bases_of, variables_base, variables_of, variable_offset, inner_offset}
use Rattle.p8_image.specs.Layout.{linked, table_bytes, image_of}

-- these bytes stand at a place of a memory
pub record Stands (memory : List ℕ) (place : ℕ) (bytes : List ℕ) : Type 0 where
  pub before : List ℕ
  pub after : List ℕ
  pub is : memory ≡ before ++ bytes ++ after
  pub there : length before ≡ place

-- object f of a project, counted from 0
abbrev pub IsObject : List ObjectPart → ℕ → ObjectPart → Type 0
IsObject objects f object = slice_get objects f ≡ Some object

-- its base
abbrev pub base_of : List ObjectPart → ℕ → ℕ
base_of objects f = slice_index (bases_of objects) f

-- where its method m is entered, counted from 0
abbrev pub entry_of : List ObjectPart → ℕ → ObjectPart → ℕ → ℕ
entry_of objects f object m = base_of objects f + code_offset object m

-- where its text k stands, counted from 0
abbrev pub text_place : List ObjectPart → ℕ → ObjectPart → ℕ → ℕ
text_place objects f object k = base_of objects f + slice_index (text_offsets object) k

-- where its DAT begins; a label stands as far after it as in the DAT
abbrev pub dat_place : List ObjectPart → ℕ → ObjectPart → ℕ
dat_place objects f object = base_of objects f + dat_offset object

-- an object in use, with the place of its variables: the top object, and each object inside one in use
pub data IsInUse (objects : List ObjectPart) : (f variables : ℕ) → Type 0 where
  Top : IsInUse objects 0 (variables_base objects)
  Inner : (f variables i g : ℕ) (object : ObjectPart) → IsInUse objects f variables → IsObject objects f object
      → slice_get object.instances i ≡ Some g → IsInUse objects g (variables + inner_offset objects object i)

-- where variable v of this size stands, counted from 0, in an object in use whose variables begin there
abbrev pub variable_place : (variables : ℕ) → ObjectPart → (size v : ℕ) → ℕ
variable_place variables object size v = variables + variable_offset object size v

-- each part of an object stands at its place of this memory
pub record PartsStand (memory : List ℕ) (objects : List ObjectPart) (f : ℕ) (object : ObjectPart) : Type 0 where
  pub table : Stands memory (base_of objects f) (table_bytes (bases_of objects) (variables_of objects) (base_of objects f) object)
  pub dat : Stands memory (dat_place objects f object) object.dat
  pub codes : (m : ℕ) (method : MethodPart) → slice_get object.methods m ≡ Some method
      → Stands memory (entry_of objects f object m) (linked (slice_index (text_offsets object)) method.uses method.code)
  pub texts : (k : ℕ) (text : List ℕ) → slice_get object.texts k ≡ Some text → Stands memory (text_place objects f object k) (text ++ 0 ∷ [])

-- the parts of each object of a project stand at their places of its image
abbrev pub AllPartsStand : Clock → List ObjectPart → Type 0
AllPartsStand clock objects = (f : ℕ) (object : ObjectPart) → IsObject objects f object → PartsStand (image_of clock objects) objects f object
