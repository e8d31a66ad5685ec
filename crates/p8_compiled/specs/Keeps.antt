-- When the memory of a program has the methods of a project, and that its bytecodes then do what their source says.
use Rattle.std.specs.Prelude.{◌≡◌, ℕ, ◌+◌, ◌%◌, ◌^◌, ◌<◌, ◌≤◌, true, List, slice_get, Some}
use Rattle.p8_access.specs.declared.kinds.Origin.{Origin}
use Rattle.p8_access.specs.declared.kinds.Answer.{Answer}
use Rattle.p8_access.specs.Courses.{Told, Wants, Leaves, Closes}
use Rattle.p8_tree.specs.declared.places.Place.{Place}
use Rattle.p8_tree.specs.Proper.{AreProperStatements}
use Rattle.p8_tree.specs.Sources.{MethodTree}
use Rattle.p8_kinds.specs.declared.name_kinds.NameKind.TheVariants as kind_case
use Rattle.p8_bcog.specs.declared.step.Callee as entry
use Rattle.p8_bcog.specs.Code.{is_method, method_at, is_object, object_base, object_variables}
use Rattle.p8_bcog.specs.Replay.{retold_life}
use Rattle.p8_meaning.specs.Programs.{Program, Addresses, File, Instance, Target, instance_at, locals_size, setting_of}
use Rattle.p8_meaning.specs.Calls.{method_of}
use Rattle.p8_meaning.specs.Lives.{IsInstance}
use Rattle.p8_compiled.specs.Depths.{body_depth}
use Rattle.p8_compiled.specs.Standing.{Compiled, names_method}
use Rattle.p8_compiled.specs.Bodies.{MethodAt}

-- ---- the tables of a memory, and the code to which they lead, for a cog

module _ (memory : List ℕ) (cog : ℕ) (program : Program) (addresses : Addresses) where
  -- an entry of an object in the table of another
  pub record ObjectPlaced (outer : Instance) (place : ℕ) (inner : Instance) : Type 0 where
    pub is_object : is_object memory outer.base place ≡ true
    pub base : object_base memory outer.base place ≡ inner.base
    pub variables : object_variables memory outer.base outer.variables place ≡ inner.variables

  -- the code of a method, with such a table
  abbrev pub compiled : (table : List (ℕ × Place)) → Target → File → (hand : Place) → Compiled
  compiled table target file hand = record {
    memory = memory;
    cog = cog;
    program = program;
    addresses = addresses;
    number = target.instance.file;
    file = file;
    method = target.method;
    table = table;
    hand = hand;
  }

  -- what its entry in the table of its object gives
  abbrev pub entered : Target → entry.Callee
  entered target = method_at memory target.instance.base target.instance.variables target.method

  -- an entry of a method, and where its code stands
  pub record MethodPlaced (table : List (ℕ × Place)) (target : Target) (file : File) (tree : MethodTree) : Type 0 where
    pub is_method : is_method memory target.instance.base target.method ≡ true
    pub entry : (target.instance.base + addresses.code target.instance.file target.method) % 2 ^ 16 ≡ (entered target).entry
    pub locals : (entered target).locals ≡ locals_size (setting_of file 0) tree.locals
    pub code : MethodAt (compiled table target file tree.place) tree.body (entered target).entry
    pub proper : AreProperStatements tree.body
    pub shallow : body_depth (names_method (compiled table target file tree.place)) tree.body ≤ 128

  -- the tables of a memory have each method and each object instance of the project
  pub record Placed : Type 0 where
    -- from which statements the bytecodes at their addresses are made
    pub table : List (ℕ × Place)
    pub method : (target : Target) → IsInstance program addresses target.instance → (file : File) →
        slice_get program target.instance.file ≡ Some file → (tree : MethodTree) → method_of file target.method ≡ Some tree →
        MethodPlaced table target file tree
    pub object : (outer : Instance) → IsInstance program addresses outer → (file : File) → slice_get program outer.file ≡ Some file →
        (method : ℕ) (name : List ℕ) (item position count : ℕ) → file.kind method name ≡ Some (kind_case.Object item position count) →
        (index : ℕ) → index < count → (child : ℕ) → slice_get file.child_files item ≡ Some child →
        ObjectPlaced outer (position + index) (instance_at addresses outer child (position + index))

-- ---- what bytecodes tell

-- what is told without the state that is left
abbrev pub forgets : {S : Type 0} → Told S → Told (Unit {0})
forgets (Wants made access) = Wants made access
forgets (Leaves made state left) = Leaves made tt left
forgets (Closes made) = Closes made

-- what a life makes of these answers in so many bytecodes after its entry
abbrev pub bytes : (memory : List ℕ) → Origin → (cog : ℕ) → List Answer → (count : ℕ) → Told (Unit {0})
bytes memory origin cog answers count = forgets (retold_life count (record { memory = memory; origin = origin; cog = cog; begin = 0 }) answers)
