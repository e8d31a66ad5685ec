-- What a method says starts methods of its project alone.
use Rattle.std.proofs.Common.{◌≡◌, ℕ, zero, suc, List, [], ◌∷◌, Some}
use Rattle.std.specs.Prelude.{slice_get, All}
use Rattle.std.proofs.lemmas.List.Elements.{All-nil}
use Rattle.p8_access.specs.declared.kinds.Access.TheVariants.{CogStop}
use Rattle.p8_access.specs.declared.kinds.Answer.{Answer}
use Rattle.p8_tree.specs.Sources.{MethodTree}
use Rattle.p8_meaning.specs.Programs.{Program, Addresses, File, Target}
use Rattle.p8_meaning.specs.Doing.{Rest}
use Rattle.p8_meaning.specs.Calls.{Returned, Result, Callee, method_of}
use Rattle.p8_meaning.specs.Lives.{IsInstance, meaning, begins, scope_with, stops, cleared, life_of, says}
use Rattle.p8_meaning.specs.Bounds.{made_of}
use Rattle.p8_compiled.specs.Bodies.{outside}
use Rattle.p8_compiled.specs.Keeps.{Placed, entered}
use Rattle.p8_compiled.specs.Told.{FramesFit}
use Rattle.p8_compiled.proofs.Starts.{StaysInProject}
use Rattle.p8_compiled.proofs.Sources.{Only, Leads, Holds, only-made, untold-holds, for_statement-holds, tells-holds, writes_longs-holds, given-holds}
use Rattle.p8_compiled.proofs.SourceForms.{CalleeHolds, executes_all-holds}

module _ (program : Program) (addresses : Addresses) (memory : List ℕ) (cog : ℕ) (placed : Placed memory cog program addresses) (fits : FramesFit program) where
  -- a method whose code stands in the memory, by what it calls
  method-holds : (most par : ℕ) (callee : Callee) → CalleeHolds program addresses callee → (target : Target) → IsInstance program addresses target.instance → (file : File) → slice_get program target.instance.file ≡ Some file → (m : MethodTree) → method_of file target.method ≡ Some m →
      (arguments : List ℕ) (frame active : ℕ) (return abort : Returned → Rest) → Leads program addresses return → Leads program addresses abort → Holds program addresses (begins most callee (scope_with program addresses par target file m frame active) m arguments return abort)
  method-holds most par callee calls target is_instance file is_file m is_method arguments frame active return abort returns aborts =
      let code = (placed.method target is_instance file is_file m is_method).code in
      writes_longs-holds program addresses (0 ∷ arguments) frame
      (executes_all-holds program addresses memory cog fits callee calls par target is_instance file is_file m frame active abort aborts placed.table most return returns
      m.body outside (entered memory cog program addresses target).entry code.0 code.2 (untold-holds program addresses) (untold-holds program addresses) (for_statement-holds program addresses m.place (returns (Result frame))))

  meaning-by : (par most : ℕ) → CalleeHolds program addresses (meaning most program addresses par) → (target : Target) → IsInstance program addresses target.instance → (arguments : List ℕ) (frame active : ℕ) {return abort : Returned → Rest} → Leads program addresses return → Leads program addresses abort →
      Holds program addresses (meaning (suc most) program addresses par target arguments frame active return abort)
  meaning-by par most calls target is_instance arguments frame active {return} {abort} returns aborts =
      given-holds program addresses (slice_get program target.instance.file) (λ file is_file. given-holds program addresses (method_of file target.method) (λ m is_method.
      method-holds (suc most) par (meaning most program addresses par) calls target is_instance file is_file m is_method arguments frame active return abort returns aborts))

  meaning-holds : (par most : ℕ) → CalleeHolds program addresses (meaning most program addresses par)
  meaning-holds par zero = record { by = λ target is_instance arguments frame active returns aborts. untold-holds program addresses }
  meaning-holds par (suc most) = record { by = meaning-by par most (meaning-holds par most) }

  stops-holds : Leads program addresses (stops cog)
  stops-holds returned = tells-holds program addresses (CogStop cog) tt (untold-holds program addresses)

  life-only : (target : Target) → IsInstance program addresses target.instance → (frame bound : ℕ) → Only program addresses (life_of program addresses target frame cog bound)
  life-only target is_instance frame bound = ((meaning-holds frame (suc bound)).by target is_instance [] frame 1 stops-holds stops-holds).by bound cleared

  -- whatever the answers and the bound
  pub source-starts : (target : Target) → IsInstance program addresses target.instance → (frame bound : ℕ) (answers : List Answer) → All (StaysInProject program addresses) (made_of (says program addresses target frame cog answers bound))
  unfolding says
  source-starts target is_instance frame bound answers = only-made program addresses cog [] (life_of program addresses target frame cog bound) (life-only target is_instance frame bound) answers (All-nil (StaysInProject program addresses))
