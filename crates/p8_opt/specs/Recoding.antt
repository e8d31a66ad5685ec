-- A project whose methods have the codes of other bodies than their own, each with its own choice of wide jumps.
use Rattle.std.specs.Prelude.{◌≡◌, ℕ, ◌<◌, ◌==◌, Bool, false, IsTrue, List, length, slice_get, Some}
use Rattle.p8_tree.specs.Nesting.{leave_loops, depth}
use Rattle.p8_tree.specs.Projects.{NamedSource}
use Rattle.p8_tree.specs.Proper.{AreProperStatements}
use Rattle.p8_tree.specs.Sources.{MethodTree, Source}
use Rattle.p8_tree.specs.Statements.{Statements}
use Rattle.p8_tree.specs.declared.faults.Fault.{Fault}
use Rattle.p8_constants.specs.FileItems.{items}
use Rattle.p8_kinds.specs.declared.children.Children.{Children}
use Rattle.p8_kinds.specs.Misuses.{MisuseInStatements}
use Rattle.p8_names.specs.Kinds.{numbered, objects, instances}
use Rattle.p8_names.specs.Resolution.{IsNamed}
use Rattle.p8_gen.specs.Names.{Names, widened}
use Rattle.p8_stmt.specs.declared.code.MethodCode.{MethodCode}
use Rattle.p8_stmt.specs.Methods.{rebodied, IsCodeOf, IsMethodFault}
use Rattle.p8_compiled.specs.Agreeing.{environment}
use Rattle.p8_build.specs.Files.{CompiledFile, setting_of, IsData, method_names, are_too_many}
use Rattle.p8_build.specs.Builds.{IsFile}

-- this is the code of a method with this body
pub record IsRecoded (names : Names) (m : MethodTree) (ss : Statements) (code : MethodCode) : Type 0 where
  -- the body could have been read, and no name of it is used against its kind
  pub proper : AreProperStatements ss
  pub loops : IsTrue (leave_loops false ss)
  pub shallow : depth ss < 64
  pub clean : (f : Fault) → ¬ MisuseInStatements (environment names) ss f
  -- the jumps that are wide; each offset fits
  pub wide : ℕ → Bool
  pub right : IsCodeOf (widened names wide) (rebodied m ss) code
  pub fits : (f : Fault) → ¬ IsMethodFault (widened names wide) (rebodied m ss) f

-- the methods of a changed source are those of the source itself but for their bodies, and these are their codes
pub record HaveCodes (source changed : Source) (children : Children) (x : CompiledFile) : Type 0 where
  pub few : are_too_many (instances (setting_of children x) (objects (items source))) (length (numbered (items source))) ≡ false
  pub methods : length (numbered (items changed)) ≡ length (numbered (items source))
  pub count : length x.codes ≡ length (numbered (items source))
  pub each : (k : ℕ) (m n : MethodTree) (code : MethodCode) → slice_get (numbered (items source)) k ≡ Some m →
      slice_get (numbered (items changed)) k ≡ Some n → slice_get x.codes k ≡ Some code
      → (n ≡ rebodied m n.body) × IsRecoded (method_names children x k m) m n.body code

-- a file is compiled to this, with codes of the methods of the changed source
pub record IsRecodedFile (source changed : Source) (children : Children) (top : Bool) (x : CompiledFile) : Type 0 where
  pub names : IsNamed source children top x.kinds
  pub dat : IsData source children x
  pub code : HaveCodes source changed children x

-- each file is; the first one is the top file
pub record AreRecoded (files : List NamedSource) (changed : ℕ → Source) (children : List Children) (xs : List CompiledFile) : Type 0 where
  pub count : length xs ≡ length files
  pub each : (i : ℕ) (file : NamedSource) (seen : Children) (x : CompiledFile) → IsFile files children i file seen → slice_get xs i ≡ Some x →
      IsRecodedFile file.tree (changed i) seen (i == 0) x
