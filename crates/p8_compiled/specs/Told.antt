-- The lives of Spin in a history, told by the source of a project.
use Rattle.std.specs.Prelude.{ℕ, ◌^◌, ◌≡◌, ◌<◌, List, map, slice_get, Some}
use Rattle.p8_access.specs.declared.kinds.Origin.{Origin}
use Rattle.p8_access.specs.declared.kinds.Origin.TheVariants.{Pasm, Spin}
use Rattle.p8_access.specs.declared.kinds.Access.{Access}
use Rattle.p8_access.specs.declared.order.Turn.{Turn}
use Rattle.p8_access.specs.Replays.{answer_of}
use Rattle.p8_access.specs.Worlds.{World}
use Rattle.p8_tree.specs.Sources.{MethodTree}
use Rattle.p8_meaning.specs.Programs.{Program, Addresses, File, Target, frame_size}
use Rattle.p8_meaning.specs.Calls.{method_of}
use Rattle.p8_meaning.specs.Lives.{IsMethodOrigin, says}
use Rattle.p8_meaning.specs.Bounds.{made_of}
use Rattle.p8_compiled.specs.Keeps.{Placed}
use Rattle.p8_compiled.specs.Lives.{IsLife}

abbrev pub access_of : Turn → Access
access_of turn = turn.access

abbrev pub IsSpin : Origin → Type 0
IsSpin (Spin entry pbase vbase frame size) = Unit {0}
IsSpin (Pasm code par) = ⊥

-- A life that began with this and had these turns is what a source says: its origin names a method of the project, and its accesses are, in
-- order, those that the method makes of the answers which it got, told up to this bound.
pub record IsTold (program : Program) (addresses : Addresses) (bound cog : ℕ) (origin : Origin) (turns : List Turn) : Type 0 where
  pub target : Target
  pub frame : ℕ
  pub is_method : IsMethodOrigin program addresses origin target frame
  pub accesses : map access_of turns ≡ made_of (says program addresses target frame cog (map answer_of turns) bound)

-- Every life of Spin is. The limit of clocks is enough as a bound: what takes one of the bound, a call or a pass of a loop after its first, takes
-- a bytecode, and a bytecode takes 32 clocks or more.
abbrev pub SpinIsTold : Program → Addresses → World → List Turn → Type 0
SpinIsTold program addresses w past =
    (cog : ℕ) (origin : Origin) (turns : List Turn) → IsLife w past cog origin turns → IsSpin origin → IsTold program addresses w.clocks cog origin turns

-- ---- what a world begins with

-- each method's frame has less than 65,536 bytes after its result
abbrev pub FramesFit : Program → Type 0
FramesFit program =
    (number : ℕ) (file : File) → slice_get program number ≡ Some file → (method : ℕ) (tree : MethodTree) → method_of file method ≡ Some tree →
    frame_size file tree < 2 ^ 16

-- a world whose memory has the methods of a project, and whose first cog begins with one of them
pub record IsWorldOf (program : Program) (addresses : Addresses) (w : World) : Type 0 where
  pub placed : (cog : ℕ) → cog < 8 → Placed w.memory cog program addresses
  pub fits : FramesFit program
  pub target : Target
  pub frame : ℕ
  pub begins : IsMethodOrigin program addresses w.first target frame
