-- What a method is read in: the files of a project, what the names of each are, and the addresses of an image.
-- Sources: the Propeller Manual v1.2, "Objects and Variables", "PUB", "PRI", "OBJ" and "DAT" of the Spin chapter.
use Rattle.std.specs.Prelude.{ℕ, ◌+◌, ◌*◌, ◌%◌, ◌^◌, List, [], ◌∷◌, ◌++◌, length, slice_get, filter_map, option_map, zero, suc, Option, Some, None}
use Rattle.std.specs.Prelude.{if◌then◌else◌}
use Rattle.std.specs.Str.{bytes_eq}
use Rattle.p8_tree.specs.declared.places.Place.{Place}
use Rattle.p8_tree.specs.Expressions.{Tree}
use Rattle.p8_tree.specs.Sources.{Source, BlockTree, Method, MethodTree, Declared}
use Rattle.p8_words.specs.Operators.{or_zero}
use Rattle.p8_fold.specs.declared.meanings.Meaning.TheVariants as meaning_case
use Rattle.p8_fold.specs.Meanings.{Setting, outside_operands}
use Rattle.p8_fold.specs.Values.{value}
use Rattle.p8_kinds.specs.declared.name_kinds.NameKind.{NameKind}
use Rattle.p8_kinds.specs.declared.name_kinds.NameKind.TheVariants as kind_case
use Rattle.p8_kinds.specs.declared.children.Child.{Child}
use Rattle.p8_kinds.specs.declared.children.ChildMethod.{ChildMethod}
use Rattle.p8_kinds.specs.declared.children.ChildConst.{ChildConst}
use Rattle.p8_kinds.specs.FileSettings.{meaning_of_kind}

-- ---- files

-- a file of a project
pub record File : Type 0 where
  -- its blocks
  pub source : Source
  -- what a name is in a method of this number, or outside all methods at 0
  pub kind : (method : ℕ) → List ℕ → Option NameKind
  -- for each item of OBJ what it sees of that object's file, and which of the project's files that is
  pub children : List Child
  pub child_files : List ℕ

-- a project: its files, the top file first
abbrev pub Program : Type 0
Program = List File

-- the methods that can be called from other files, and those that can't
abbrev pub public_method : BlockTree → Option MethodTree
public_method (Method m) = if m.public then Some m else None
public_method block = None

abbrev pub private_method : BlockTree → Option MethodTree
private_method (Method m) = if m.public then None else Some m
private_method block = None

-- the methods of a file, each PUB in order and then each PRI; they are numbered so, from 1
abbrev pub methods_of : Source → List MethodTree
methods_of source = filter_map public_method source ++ filter_map private_method source

abbrev pub numbered : List MethodTree → (number : ℕ) → Option MethodTree
numbered methods zero = None
numbered methods (suc n) = slice_get methods n

-- ---- constants

-- after an object's name stand the constants of its file, of which the first with a name counts
abbrev pub constant_named : List ℕ → List ChildConst → Option ℕ
constant_named name [] = None
constant_named name (c ∷ cs) = if bytes_eq name c.name then Some c.value else constant_named name cs

abbrev pub constants_of : Option Child → List ChildConst
constants_of None = []
constants_of (Some child) = child.consts

-- the value of `object#name`, by the kind of the object's name
abbrev pub object_constant : File → Option NameKind → (name : List ℕ) → Option ℕ
object_constant file (Some (kind_case.Object item position count)) name = constant_named name (constants_of (slice_get file.children item))
object_constant file _ name = None

-- what names mean where a constant is needed, in a method, or outside all methods at 0: a constant has its value; no variable,
-- label or method is constant
abbrev pub setting_of : File → (method : ℕ) → Setting
setting_of file method = record {
  name = λ name. option_map meaning_of_kind (file.kind method name);
  constant = λ object name. option_map meaning_case.Value (object_constant file (file.kind method object) name);
  here = outside_operands None;
}

-- ---- frames: a method's result, its parameters and its locals, each a long

-- a local of its own count has so many longs, and each other one
abbrev pub longs_of : Setting → Option Tree → ℕ
longs_of setting None = 1
longs_of setting (Some count) = or_zero (value setting count)

-- the bytes of a method's locals
abbrev pub locals_size : Setting → List Declared → ℕ
locals_size setting [] = 0
locals_size setting (x ∷ xs) = 4 * longs_of setting x.count + locals_size setting xs

-- the bytes of a frame after the result
abbrev pub frame_size : File → MethodTree → ℕ
frame_size file m = 4 * length m.params + locals_size (setting_of file 0) m.locals

-- ---- addresses

-- an object instance: its file, the address of its methods and data, and that of its variables
pub record Instance : Type 0 where
  pub file : ℕ
  pub base : ℕ
  pub variables : ℕ

-- where an image has what is named: numbers of bytes from the base of an object, by the object's file
pub record Addresses : Type 0 where
  -- a label of DAT
  pub label : (file : ℕ) → (name : List ℕ) → ℕ
  -- the text of the STRING at this place of the source
  pub text : (file : ℕ) → Place → ℕ
  -- a method's code
  pub code : (file method : ℕ) → ℕ
  -- the object instance at this place among all those of the file: its base, from that of the object at hand, and its variables,
  -- from the variables of the object at hand
  pub object_base : (file position : ℕ) → ℕ
  pub object_variables : (file position : ℕ) → ℕ
  -- the instance of the top file
  pub top : Instance

-- the object instance at a place of the file of another instance
abbrev pub instance_at : Addresses → (outer : Instance) → (file position : ℕ) → Instance
instance_at addresses outer file position = record {
  file = file;
  base = (outer.base + addresses.object_base outer.file position) % 2 ^ 16;
  variables = (outer.variables + addresses.object_variables outer.file position) % 2 ^ 16;
}

-- where a method's body is read
pub record Scope : Type 0 where
  pub program : Program
  pub addresses : Addresses
  -- PAR, which is the frame with which the cog began
  pub par : ℕ
  -- the object instance, its file, and which of the file's methods this is
  pub instance : Instance
  pub file : File
  pub method : ℕ
  -- where the method's frame begins, and where it ends
  pub frame : ℕ
  pub frame_end : ℕ
  -- how many methods are active, this one and all that wait for it to end
  pub active : ℕ

abbrev pub kind_of : Scope → List ℕ → Option NameKind
kind_of s name = s.file.kind s.method name

abbrev pub scope_setting : Scope → Setting
scope_setting s = setting_of s.file s.method

-- ---- methods that are called

-- a method of an object instance
pub record Target : Type 0 where
  pub instance : Instance
  pub method : ℕ

-- a method of the same object
abbrev pub own_target : Scope → Option NameKind → Option Target
own_target s (Some (kind_case.Method number params)) = Some (record { instance = s.instance; method = number })
own_target s _ = None

-- the first PUB of an object's file with a name; PUBs are numbered from 1
abbrev pub method_named : List ℕ → List ChildMethod → (number : ℕ) → Option ℕ
method_named name [] number = None
method_named name (m ∷ ms) number = if bytes_eq name m.name then Some number else method_named name ms (number + 1)

abbrev pub methods_in : Option Child → List ChildMethod
methods_in None = []
methods_in (Some child) = child.methods

-- where both are there
abbrev pub target_of : Option ℕ → Option ℕ → (ℕ → ℕ → Target) → Option Target
target_of (Some file) (Some number) go = Some (go file number)
target_of _ _ go = None

-- a method of the object instance at a place, which is an instance of this item of OBJ
abbrev pub object_target : Scope → (item position : ℕ) → (method : List ℕ) → Option Target
object_target s item position method =
    target_of (slice_get s.file.child_files item) (method_named method (methods_in (slice_get s.file.children item)) 1)
    (λ file number. record { instance = instance_at s.addresses s.instance file position; method = number })
