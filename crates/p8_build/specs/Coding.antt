-- internal: what is known while the code of a file's methods is made.
use Rattle.std.specs.Prelude.{◌≡◌, ◌⊎◌, ℕ, ◌+◌, ◌*◌, true, false, List, [], ◌∷◌, ◌++◌, length, map, slice_get, Some, None}
use Rattle.p8_tree.specs.declared.places.Place.{Place}
use Rattle.p8_tree.specs.Sources.{MethodTree}
use Rattle.p8_tree.specs.declared.faults.Fault.{Fault}
use Rattle.p8_tree.specs.Faults.{fault, IsFirstFault, first_of_two}
use Rattle.p8_tree.specs.declared.refusal.Refusal.TheVariants.{TooManyMethods}
use Rattle.p8_constants.specs.Standing.{IsFirstOf}
use Rattle.p8_gen.specs.Names.{Names}
use Rattle.p8_image.specs.declared.parts.MethodPart.{MethodPart}
use Rattle.p8_stmt.specs.declared.code.MethodCode.{MethodCode}
use Rattle.p8_stmt.specs.Methods.{AreResolved, IsCodeOf, IsMethodFault}
use Rattle.p8_build.specs.Files.{are_too_many}
use Rattle.p8_build.specs.Numbers.{use_by}
use Rattle.p8_build.specs.Measuring.{IfSizeAt}
use Rattle.p8_build.specs.declared.coding.Coded.{Coded}
use Rattle.p8_build.specs.declared.fault.PhaseRefusal.{PhaseRefusal}

-- all methods can be coded
pub record AreReady (names : ℕ → MethodTree → Names) (ms : List MethodTree) : Type 0 where
  pub each : (k : ℕ) (m : MethodTree) → slice_get ms k ≡ Some m → AreResolved (names k m) m.body

-- one method more: its code, or its first fault
pub data IsOneMore (names : Names) (m : MethodTree) (old new : Coded) : Type 0 where
  coded : (code : MethodCode) → IsCodeOf names m code → ((f : Fault) → ¬ IsMethodFault names m f) → new.codes ≡ old.codes ++ code ∷ [] →
      new.fault ≡ old.fault → IsOneMore names m old new
  refused : (f : Fault) → IsFirstFault (IsMethodFault names m) f → new.codes ≡ old.codes → new.fault ≡ first_of_two old.fault (Some f) →
      IsOneMore names m old new

-- a fault of one of some methods
pub data IsFaultOfOne (names : ℕ → MethodTree → Names) (ms : List MethodTree) (f : Fault) : Type 0 where
  of_one : (k : ℕ) (m : MethodTree) → slice_get ms k ≡ Some m → IsMethodFault (names k m) m f → IsFaultOfOne names ms f

-- codes of the first methods
pub record AreCodesOf (names : ℕ → MethodTree → Names) (ms : List MethodTree) (codes : List MethodCode) : Type 0 where
  pub each : (k : ℕ) (m : MethodTree) (code : MethodCode) → slice_get ms k ≡ Some m → slice_get codes k ≡ Some code → IsCodeOf (names k m) m code

-- all methods have been looked at
pub record IsCoded (names : ℕ → MethodTree → Names) (ms : List MethodTree) (coded : Coded) : Type 0 where
  pub fault : IsFirstOf coded.fault (IsFaultOfOne names ms)
  pub count : coded.fault ≡ None → length coded.codes ≡ length ms
  pub codes : coded.fault ≡ None → AreCodesOf names ms coded.codes

-- 27 at the first method too many, beside so many instances
pub data IsOneTooMany (instances : ℕ) (ms : List MethodTree) (f : Fault) : Type 0 where
  too_many : (k : ℕ) (m : MethodTree) → slice_get ms k ≡ Some m → are_too_many instances (k + 1) ≡ true → are_too_many instances k ≡ false →
      fault TooManyMethods m.place ≡ f → IsOneTooMany instances ms f

-- a fault of the code of a file with so many instances
abbrev pub IsFaultOfCode : (ℕ → MethodTree → Names) → ℕ → List MethodTree → Fault → Type 0
IsFaultOfCode names instances ms f = IsFaultOfOne names ms f ⊎ IsOneTooMany instances ms f

-- the codes of all methods, and nothing is wrong with them
pub record AreAllCodes (names : ℕ → MethodTree → Names) (instances : ℕ) (ms : List MethodTree) (codes : List MethodCode) : Type 0 where
  pub clean : (f : Fault) → ¬ IsFaultOfCode names instances ms f
  pub count : length codes ≡ length ms
  pub are : AreCodesOf names ms codes

-- the first fault of the code of the file of this number, and its size
pub record IsCodeRefusal (file : ℕ) (names : ℕ → MethodTree → Names) (instances : ℕ) (ms : List MethodTree) (r : PhaseRefusal) : Type 0 where
  pub phase : r.phase ≡ 2
  pub file_is : r.file ≡ file
  pub first : IsFirstFault (IsFaultOfCode names instances ms) r.fault
  pub size : IfSizeAt names ms r.fault r.size

-- ---- parts

-- a method's part, by the numbers of the texts
abbrev pub part_by : (Place → ℕ) → MethodTree → MethodCode → MethodPart
part_by number m code = record {
  parameters = 4 * length m.params;
  locals = code.locals;
  code = code.bytes;
  uses = map (use_by number) code.strings;
}

-- methods with their codes, one by one
abbrev pub parts_by : (Place → ℕ) → List MethodTree → List MethodCode → List MethodPart
parts_by number (m ∷ ms) (code ∷ codes) = part_by number m code ∷ parts_by number ms codes
parts_by number _ _ = []
