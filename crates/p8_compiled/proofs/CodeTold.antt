-- What code makes its source says, also with a greater bound.
use Rattle.std.proofs.Common.{ℕ, List, []}
use Rattle.p8_meaning.specs.Programs.{Program, Addresses}
use Rattle.p8_meaning.specs.Lives.{says, life_of}
use Rattle.p8_meaning.specs.Bounds.{made_of}
use Rattle.p8_meaning.proofs.Growing.{longer}
use Rattle.p8_meaning.proofs.GrowingForms.{life-goes}
use Rattle.p8_compiled.specs.Keeps.{Placed, bytes}
use Rattle.p8_compiled.proofs.Methods.{made-by}
use Rattle.p8_compiled.proofs.SpinLives.{CodeIsTold, begins-further}

pub code-told : (program : Program) (addresses : Addresses) (memory : List ℕ) (cog : ℕ) → Placed memory cog program addresses → CodeIsTold program addresses memory cog
unfolding says
code-told program addresses memory cog placed origin target frame o answers count limit le =
    begins-further (made_of (bytes memory origin cog answers count)) (made_of (says program addresses target frame cog answers count)) (made_of (says program addresses target frame cog answers limit))
    (made-by memory cog program addresses placed origin target frame o answers count)
    (longer cog [] (life_of program addresses target frame cog count) (life_of program addresses target frame cog limit) (life-goes program addresses target frame cog count limit le) answers)
