-- That a memory keeps the meaning of a source.
use Rattle.std.specs.Prelude.{◌≡◌, ℕ, ◌<◌, ◌≤◌, List}
use Rattle.p8_access.specs.declared.kinds.Answer.{Answer}
use Rattle.p8_access.specs.declared.kinds.Origin.{Origin}
use Rattle.p8_meaning.specs.Programs.{Program, Addresses, Target}
use Rattle.p8_meaning.specs.Lives.{IsMethodOrigin, says}
use Rattle.p8_meaning.specs.Bounds.{made_of, IsSettled, IsBeginning}
use Rattle.p8_meaning.specs.Halts.{AreSourceAccesses}
use Rattle.p8_compiled.specs.Keeps.{bytes}

-- Whichever method of a project a cog begins with, in whichever frame, and whatever answers its accesses get: what the source says up to a bound, some number
-- of bytecodes does, no lesser than the bound; what a number of bytecodes does up to a next access or the life's end, the source says with that bound; at
-- each number what was made is a beginning of what the source makes; and no halt comes that a source doesn't make.
pub record KeepsMeaning (memory : List ℕ) (program : Program) (addresses : Addresses) : Type 0 where
  pub source : (cog : ℕ) → cog < 8 → (origin : Origin) (target : Target) (frame : ℕ) → IsMethodOrigin program addresses origin target frame →
      (answers : List Answer) (f : ℕ)
      → (g : ℕ) × (f ≤ g) × (bytes memory origin cog answers g ≡ says program addresses target frame cog answers f)
  pub bytecodes : (cog : ℕ) → cog < 8 → (origin : Origin) (target : Target) (frame : ℕ) → IsMethodOrigin program addresses origin target frame →
      (answers : List Answer) (g : ℕ)
      → IsSettled (bytes memory origin cog answers g) → says program addresses target frame cog answers g ≡ bytes memory origin cog answers g
  pub made : (cog : ℕ) → cog < 8 → (origin : Origin) (target : Target) (frame : ℕ) → IsMethodOrigin program addresses origin target frame →
      (answers : List Answer) (g : ℕ)
      → IsBeginning (made_of (bytes memory origin cog answers g)) (made_of (says program addresses target frame cog answers g))
  pub clean : (cog : ℕ) → cog < 8 → (origin : Origin) (target : Target) (frame : ℕ) → IsMethodOrigin program addresses origin target frame →
      (answers : List Answer) (g : ℕ)
      → AreSourceAccesses (bytes memory origin cog answers g)
