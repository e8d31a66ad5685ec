-- What has a name in the hub, and where it stands there by the layout of the image and the addresses of its program: a label of DAT, the code of
-- a method, and a variable of an object instance. All addresses are told mod 65,536, which is exact in an image that fits the hub.
use Rattle.std.specs.Prelude.{ℕ, suc, ◌+◌, ◌%◌, ◌^◌, ◌<◌, ◌≡◌, ◌⊎◌, List, [], ◌++◌, length, drop, slice_get, slice_index, Some, codes}
use Rattle.p8_image.specs.declared.parts.Variable.{Variable}
use Rattle.p8_image.specs.declared.parts.MethodPart.{MethodPart}
use Rattle.p8_image.specs.declared.parts.ObjectPart.{ObjectPart}
use Rattle.p8_kinds.specs.declared.name_kinds.Label.{Label}
use Rattle.p8_map.specs.declared.names.MethodNames.{MethodNames}
use Rattle.p8_map.specs.declared.names.FileNames.{FileNames}
use Rattle.p8_legend.specs.declared.ranges.Range.{Range}
use Rattle.p8_legend.specs.declared.ranges.Ranges.{Ranges}
use Rattle.p8_meaning.specs.Programs.{Instance as Standing, Addresses}
use Rattle.p8_image.specs.Layout.{codes_offset, variable_size, variables_of}
use Rattle.p8_image.specs.Places.{IsObject, base_of, variable_place}
use Rattle.p8_meaning.specs.Programs.{instance_at}
use Rattle.p8_legend.specs.ProjectLegends.{label_end, path_of}

-- the names of the file of this number, and its object
pub record IsFileAt (files : List FileNames) (objects : List ObjectPart) (f : ℕ) (names : FileNames) (object : ObjectPart) : Type 0 where
  pub is_file : slice_get files f ≡ Some names
  pub is_object : IsObject objects f object

-- An object instance, with what the names of its variables begin with: nothing for that of the top file, and for one inside another what the
-- other's begin with, then its name there and `.`.
pub data HasPath (files : List FileNames) (objects : List ObjectPart) (addresses : Addresses) : (path : List ℕ) → Standing → Type 0 where
  top_path : HasPath files objects addresses [] addresses.top
  inner_path : {path name : List ℕ} {outer : Standing} {names : FileNames} {object : ObjectPart} {child : ℕ} (i : ℕ) →
      HasPath files objects addresses path outer
      → IsFileAt files objects outer.file names object → slice_get names.instances i ≡ Some name → slice_get object.instances i ≡ Some child
      → HasPath files objects addresses (path ++ name ++ codes ".") (instance_at addresses outer child (length object.methods + 1 + i))

-- a range stands among some with this text
pub record IsAmong (names : Ranges) (text : List ℕ) (range : Range) : Type 0 where
  pub number : ℕ
  pub range_is : slice_get names.ranges number ≡ Some range
  pub text_is : slice_get names.texts number ≡ Some text

-- ---- what has a name

-- a label of DAT
pub record NamedLabel (files : List FileNames) (objects : List ObjectPart) : Type 0 where
  pub f : ℕ
  pub names : FileNames
  pub object : ObjectPart
  pub there : IsFileAt files objects f names object
  pub k : ℕ
  pub label : Label
  pub is_label : slice_get names.labels k ≡ Some label

-- a method; methods are counted from 1
pub record NamedMethod (files : List FileNames) (objects : List ObjectPart) : Type 0 where
  pub f : ℕ
  pub names : FileNames
  pub object : ObjectPart
  pub there : IsFileAt files objects f names object
  pub k : ℕ
  pub m : MethodNames
  pub is_name : slice_get names.methods k ≡ Some m
  pub method : MethodPart
  pub is_method : slice_get object.methods k ≡ Some method

-- a variable of an object instance
pub record NamedVariable (files : List FileNames) (objects : List ObjectPart) (addresses : Addresses) : Type 0 where
  pub path : List ℕ
  pub instance : Standing
  pub has_path : HasPath files objects addresses path instance
  pub names : FileNames
  pub object : ObjectPart
  pub there : IsFileAt files objects instance.file names object
  pub v : ℕ
  pub name : List ℕ
  pub is_name : slice_get names.variables v ≡ Some name
  pub variable : Variable
  pub is_variable : slice_get object.variables v ≡ Some variable

-- ---- where it stands

module _ (files : List FileNames) (objects : List ObjectPart) (addresses : Addresses) where
  -- a label so far from its object's base as in the DAT, with the bytes up to the next label, and the last one with those up to the codes
  abbrev pub label_range : NamedLabel files objects → Range
  label_range x = record {
    address = (base_of objects x.f + x.label.offset) % 2 ^ 16;
    end = label_end (base_of objects x.f) ((base_of objects x.f + codes_offset x.object) % 2 ^ 16) (drop (suc x.k) x.names.labels);
  }

  -- a method where its code is entered, with all its code
  abbrev pub method_range : NamedMethod files objects → Range
  method_range x = record {
    address = (base_of objects x.f + addresses.code x.f (x.k + 1)) % 2 ^ 16;
    end = (base_of objects x.f + addresses.code x.f (x.k + 1) + length x.method.code) % 2 ^ 16;
  }

  -- a variable at its place among those of its instance, with all its elements
  abbrev pub variable_range : NamedVariable files objects addresses → Range
  variable_range x = record {
    address = variable_place x.instance.variables x.object x.variable.size x.v % 2 ^ 16;
    end = (variable_place x.instance.variables x.object x.variable.size x.v + variable_size x.variable) % 2 ^ 16;
  }

  -- This text is the name of what stands in this range: that of a label or a method behind the path of its object, and that of a variable behind the
  -- path of its instance.
  pub data IsNameOf (text : List ℕ) (range : Range) : Type 0 where
    of_label : (x : NamedLabel files objects) → text ≡ path_of files objects (length objects) x.f ++ x.label.name → range ≡ label_range x → IsNameOf text range
    of_method : (x : NamedMethod files objects) → text ≡ path_of files objects (length objects) x.f ++ x.m.name → range ≡ method_range x → IsNameOf text range
    of_variable : (x : NamedVariable files objects addresses) → text ≡ x.path ++ x.name → range ≡ variable_range x → IsNameOf text range

  -- A variable of the top file, or of an instance that has a byte of variables or has one inside that has. Of other instances there may be more than
  -- can be listed.
  abbrev pub IsListed : NamedVariable files objects addresses → Type 0
  IsListed x = (x.path ≡ []) ⊎ (0 < slice_index (variables_of objects) x.instance.file)

  -- names that a legend tells: all but those of variables that aren't listed
  abbrev pub IsTold : (text : List ℕ) → (range : Range) → IsNameOf text range → Type 0
  IsTold text range (of_label x text_is range_is) = Unit {0}
  IsTold text range (of_method x text_is range_is) = Unit {0}
  IsTold text range (of_variable x text_is range_is) = IsListed x
