-- internal
-- The memory of an image, by what is kept of it.
use Rattle.std.specs.Prelude.{ℕ, List, Option, Some, None}
use Rattle.std.specs.declared.vec.Vec.{Vec}
use Rattle.std.specs.declared.alloc.Global.{Global}
use Rattle.p8_image.specs.Loading.{memory_of}

-- a memory that was given, or else the one that follows from the bytes of a `.binary` file
abbrev pub memory_in : List ℕ → Option (Vec ℕ Global) → List ℕ
memory_in file (Some memory) = memory.items
memory_in file None = memory_of file
