-- internal: what each step of building with short code comes to.
use Rattle.std.specs.Prelude.{◌≡◌, ℕ, Bool, List, [], ◌∷◌, slice_get, Some}
use Rattle.p8_tree.specs.Projects.{NamedSource}
use Rattle.p8_tree.specs.Proper.{IsProperFile}
use Rattle.p8_tree.specs.Sources.{MethodTree, Source}
use Rattle.p8_tree.specs.declared.faults.Fault.{Fault}
use Rattle.p8_fold.specs.ConstantEntries.{setting_of as setting_in}
use Rattle.p8_kinds.specs.declared.children.Children.{Children}
use Rattle.p8_kinds.specs.declared.kinds.Kinds.{Kinds}
use Rattle.p8_gen.specs.Names.{Names}
use Rattle.p8_gen.specs.declared.coder.Tables.{Tables}
use Rattle.p8_image.specs.declared.parts.ObjectPart.{ObjectPart}
use Rattle.p8_stmt.specs.declared.code.MethodCode.{MethodCode}
use Rattle.p8_stmt.specs.Methods.{AreResolved, IsMethodFault, rebodied}
use Rattle.p8_stmt.specs.Jumps.{IsShortCode}
use Rattle.p8_build.specs.declared.accepting.AcceptedFile.{AcceptedFile}
use Rattle.p8_build.specs.Accepted.{HasTables, compiled_file, recoded_file}
use Rattle.p8_build.specs.Files.{names_with, IsCompiled, setting_of}
use Rattle.p8_build.specs.Phases.{object_in}
use Rattle.p8_meaning.specs.Constants.{Constants, constants_in}
use Rattle.p8_meaning.specs.Folding.{folded_body}
use Rattle.p8_opt.specs.Asked.{AreWords}
use Rattle.p8_opt.specs.Shorts.{IsShort}

abbrev pub constants_by : Tables → Constants
constants_by tables = constants_in (setting_in tables.consts)

-- a method can be coded when it is folded
pub record CanBeFolded (names : Names) (c : Constants) (m : MethodTree) : Type 0 where
  pub resolved : AreResolved names (folded_body c m.body)
  pub accepted : (f : Fault) → ¬ IsMethodFault names (rebodied m (folded_body c m.body)) f

-- all methods of a file can
pub record AreFoldable (kinds : Kinds) (tables : Tables) (ms : List MethodTree) : Type 0 where
  pub each : (k : ℕ) (m : MethodTree) → slice_get ms k ≡ Some m → CanBeFolded (names_with kinds tables k m) (constants_by tables) m

-- the short codes of the first methods
pub record AreShortCodes (kinds : Kinds) (tables : Tables) (ms : List MethodTree) (codes : List MethodCode) : Type 0 where
  pub each : (k : ℕ) (m : MethodTree) (code : MethodCode) → slice_get ms k ≡ Some m → slice_get codes k ≡ Some code →
      IsShortCode (names_with kinds tables k m) m (folded_body (constants_by tables) m.body) code

-- a file of an accepted project, with what is worked out of it
pub record IsAcceptedFile (f : AcceptedFile) : Type 0 where
  pub source : Source
  pub children : Children
  pub top : Bool
  pub proper : IsProperFile source
  pub is : IsCompiled source children top (compiled_file f)
  pub words : AreWords (constants_in (setting_of children (compiled_file f)))
  pub tables : HasTables source children f

-- these are the short codes of its methods
abbrev pub IsItsShort : AcceptedFile → List MethodCode → Type 0
IsItsShort f codes = (h : IsAcceptedFile f) → IsShort h.source h.children (compiled_file f) (recoded_file f codes)

pub record AreAcceptedFiles (accepted : List AcceptedFile) : Type 0 where
  pub each : (i : ℕ) (f : AcceptedFile) → slice_get accepted i ≡ Some f → IsAcceptedFile f

pub record AreAllShort (accepted : List AcceptedFile) (codes : List (List MethodCode)) : Type 0 where
  pub each : (i : ℕ) (f : AcceptedFile) (own : List MethodCode) → slice_get accepted i ≡ Some f → slice_get codes i ≡ Some own → IsItsShort f own

-- the objects of files with these codes of each one's methods
abbrev pub objects_in : List NamedSource → List AcceptedFile → List (List MethodCode) → List ObjectPart
objects_in files (f ∷ fs) (own ∷ codes) = object_in files f own ∷ objects_in files fs codes
objects_in files _ _ = []
