-- What a method does, and with it what a Spin cog does that is started with it.
-- Sources: the Propeller Manual v1.2, "PUB", "COGNEW", "COGINIT" and "COGSTOP" of the Spin chapter.
use Rattle.std.specs.Prelude.{ℕ, zero, suc, ◌+◌, ◌%◌, ◌^◌, ◌≡◌, ◌<◌, List, [], ◌∷◌, slice_get, Option, Some}
use Rattle.p8_access.specs.declared.kinds.Origin.{Origin}
use Rattle.p8_access.specs.declared.kinds.Origin.TheVariants.{Spin}
use Rattle.p8_access.specs.declared.kinds.Access.TheVariants.{CogStop}
use Rattle.p8_access.specs.declared.kinds.Answer.{Answer}
use Rattle.p8_access.specs.Proper.{IsLongAddress}
use Rattle.p8_access.specs.Courses.{Course, Told, told}
use Rattle.p8_tree.specs.declared.places.Place.{Place}
use Rattle.p8_tree.specs.Sources.{MethodTree}
use Rattle.p8_kinds.specs.declared.name_kinds.NameKind.TheVariants as kind_case
use Rattle.p8_meaning.specs.Programs.{Program, File, Addresses, Scope, Instance, Target, frame_size, instance_at}
use Rattle.p8_meaning.specs.Doing.{Deeds, course_of, statement_after, Rest, Registers, untold, for_statement, tells, writes_longs, given}
use Rattle.p8_meaning.specs.Calls.{Callee, Returned, Result, method_of}
use Rattle.p8_meaning.specs.Statements.{executes_all}

-- ---- methods

-- a method begins with a frame: 0 is written to its result and then its arguments to its first parameters (profile); its locals have what
-- stands there. The writes are done for the statement that calls it. The end of its body is a RETURN, a statement at the place of its name.
abbrev pub begins : (most : ℕ) → Callee → Scope → MethodTree → List ℕ → (return abort : Returned → Rest) → Rest
begins most callee s m arguments return abort =
    writes_longs s.frame (0 ∷ arguments) (executes_all most callee s return abort m.body untold untold (for_statement m.place (return (Result s.frame))))

-- where the body of a method is read that begins with this frame
abbrev pub scope_with : Program → Addresses → (par : ℕ) → Target → File → MethodTree → (frame active : ℕ) → Scope
scope_with program addresses par target file m frame active = record {
  program = program;
  addresses = addresses;
  par = par;
  instance = target.instance;
  file = file;
  method = target.method;
  frame = frame;
  frame_end = (frame + 4 + frame_size file m) % 2 ^ 16;
  active = active;
}

-- What a method does, where at most so many calls are made one inside the other, and at most so many passes by one loop. Each call takes
-- one of the bound, so that the bound ends first where it is no greater.
abbrev pub meaning : (most : ℕ) → Program → Addresses → (par : ℕ) → Callee
meaning zero program addresses par target arguments frame active return abort = untold
meaning (suc most) program addresses par target arguments frame active return abort =
    given (slice_get program target.instance.file) (λ file. given (method_of file target.method) (λ m.
    begins (suc most) (meaning most program addresses par) (scope_with program addresses par target file m frame active) m arguments return abort))

-- ---- lives

-- a cog whose first method returns, or that nothing stops in an abort (profile), stops itself
abbrev pub stops : (cog : ℕ) → Returned → Rest
stops cog returned = tells (CogStop cog) untold

-- no statement: lines and columns are counted from 1
abbrev pub no_statement : Place
no_statement = record { line = 0; column = 0 }

-- what a cog begins with; the write to the result of its first method is done for no statement
abbrev pub cleared : Registers
cleared = record { outa = 0; dira = 0; statement = no_statement }

-- what a cog does that begins with this method and this frame
abbrev pub deeds_of : Program → Addresses → Target → (frame cog bound : ℕ) → Deeds
deeds_of program addresses target frame cog bound =
    meaning (suc bound) program addresses frame target [] frame 1 (stops cog) (stops cog) bound cleared

abbrev pub life_of : Program → Addresses → Target → (frame cog bound : ℕ) → Course (Unit {0})
life_of program addresses target frame cog bound = course_of (deeds_of program addresses target frame cog bound)

-- the accesses that it makes of these answers, and the one that it asks next. Where the bound ends first, it leaves what isn't told.
unfoldable pub says : Program → Addresses → Target → (frame cog : ℕ) → List Answer → (bound : ℕ) → Told (Unit {0})
says program addresses target frame cog answers bound = told cog [] (life_of program addresses target frame cog bound) answers

-- the place of the statement for which it asks the access that comes after these answers
unfoldable pub says_for : Program → Addresses → Target → (frame cog : ℕ) → List Answer → (bound : ℕ) → Option Place
says_for program addresses target frame cog answers bound = statement_after (deeds_of program addresses target frame cog bound) answers

-- ---- what lives begin with

-- the object instances of a project: that of the top file, and those of the items of OBJ of each instance
pub data IsInstance (program : Program) (addresses : Addresses) : Instance → Type 0 where
  top_instance : IsInstance program addresses addresses.top
  inner_instance : {outer : Instance} {file : File} {name : List ℕ} {method item position count child : ℕ} (index : ℕ) →
      IsInstance program addresses outer → slice_get program outer.file ≡ Some file →
      file.kind method name ≡ Some (kind_case.Object item position count) → index < count → slice_get file.child_files item ≡ Some child →
      IsInstance program addresses (instance_at addresses outer child (position + index))

-- the origin with which a cog begins a method of an instance, with this frame
pub record IsMethodOrigin (program : Program) (addresses : Addresses) (origin : Origin) (target : Target) (frame : ℕ) : Type 0 where
  pub file : File
  pub tree : MethodTree
  pub is_instance : IsInstance program addresses target.instance
  pub is_file : slice_get program target.instance.file ≡ Some file
  pub is_method : method_of file target.method ≡ Some tree
  pub is_frame : IsLongAddress frame
  pub is_origin : origin ≡ Spin ((target.instance.base + addresses.code target.instance.file target.method) % 2 ^ 16) target.instance.base target.instance.variables frame (frame_size file tree)
