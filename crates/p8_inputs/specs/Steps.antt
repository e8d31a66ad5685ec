-- internal
-- What one file gives.
use Rattle.std.specs.Prelude.{ℕ, ◌≡◌, List, Option, Some, None}
use Rattle.p8_access.specs.declared.memory.Boot.{Boot}
use Rattle.p8_io.specs.Shelves.{Files}
use Rattle.p8_legend.specs.declared.legend.Legend.{Legend}
use Rattle.p8_inputs.specs.declared.program.Format.{Format}
use Rattle.p8_inputs.specs.declared.program.Format.TheVariants.{Source}
use Rattle.p8_inputs.specs.declared.stop.Stop.{Stop}
use Rattle.p8_inputs.specs.declared.stop.Stop.TheVariants.{Unnamed, NoMemory}
use Rattle.p8_inputs.specs.Legends.{range_in}
use Rattle.p8_inputs.specs.Inputs.{IsProgram}
use Rattle.p8_inputs.specs.Programs.{memory_by, first_by}
use Rattle.p8_inputs.specs.Runs.{HasProperTrees}

-- this boot is that of what is run
abbrev pub IsBootOf : Files → Format → (file : List ℕ) → Boot → Type 0
IsBootOf files format file boot =
    (bytes : List ℕ) × IsProgram files format file bytes × HasProperTrees files format file bytes
    × (boot.ram ≡ memory_by format bytes) × (boot.first ≡ first_by format bytes)

-- a file of this format has the bytes that are run themselves
abbrev pub IsOfBytes : Format → Type 0
IsOfBytes (Source short) = ⊥
IsOfBytes format = Unit {0}

-- this tells that nothing of a file's program has a name, or that there was no memory for that
abbrev pub IsNameless : (file name : List ℕ) → Stop → Type 0
IsNameless file name (Unnamed other text) = (other ≡ file) × (text ≡ name)
IsNameless file name NoMemory = Unit {0}
IsNameless file name _ = ⊥

-- and so it is by a legend
abbrev pub IsNamelessIn : Legend → (file : List ℕ) → Option (List ℕ) → Stop → Type 0
IsNamelessIn legend file None stop = ⊥
IsNamelessIn legend file (Some name) stop = IsNameless file name stop × (range_in legend name ≡ None)
