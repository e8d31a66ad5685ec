-- What a name of a source is by its kind, among what legend and map name: it stands where the meaning of the source takes it.
use Rattle.std.specs.Prelude.{◌≡◌, ℕ, ◌+◌, ◌%◌, ◌^◌, true, List}
use Rattle.std.specs.Str.{str_eq_ignore_ascii_case}
use Rattle.p8_image.specs.declared.parts.ObjectPart.{ObjectPart}
use Rattle.p8_map.specs.declared.names.FileNames.{FileNames}
use Rattle.p8_meaning.specs.Programs.{Instance as Standing, Addresses}
use Rattle.p8_legend.specs.Stands.{NamedLabel, NamedVariable, label_range, variable_range}

module _ (files : List FileNames) (objects : List ObjectPart) (addresses : Addresses) (instance : Standing) (name : List ℕ) where
  -- a variable of this object instance has the name, in letters of either case; it is of this size, and stands so far from where the instance's variables begin
  pub record HasVariable (size offset : ℕ) : Type 0 where
    pub variable : NamedVariable files objects addresses
    pub instance_is : variable.instance ≡ instance
    pub named : str_eq_ignore_ascii_case variable.name name ≡ true
    pub size_is : variable.variable.size ≡ size
    pub stands : (variable_range files objects addresses variable).address ≡ (instance.variables + offset) % 2 ^ 16

  -- a label of this object instance's file has the name, in letters of either case; it is of this size, and stands where code takes it
  pub record HasLabel (size : ℕ) : Type 0 where
    pub label : NamedLabel files objects
    pub file_is : label.f ≡ instance.file
    pub named : str_eq_ignore_ascii_case label.label.name name ≡ true
    pub size_is : label.label.size ≡ size
    pub stands : (label_range files objects addresses label).address ≡ (instance.base + addresses.label instance.file name) % 2 ^ 16
