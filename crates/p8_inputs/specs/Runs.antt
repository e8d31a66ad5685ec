-- What a run begins with (this project's profile).
use Rattle.std.specs.Prelude.{ℕ, ◌≡◌, List, Option}
use Rattle.p8_tree.specs.Projects.{NamedSource}
use Rattle.p8_image.specs.declared.clocks.Clock.{Clock}
use Rattle.p8_image.specs.declared.parts.ObjectPart.{ObjectPart}
use Rattle.p8_image.specs.Layout.{image_of}
use Rattle.p8_io.specs.Shelves.{Files}
use Rattle.p8_build.specs.Parts.{AreProper}
use Rattle.p8_inputs.specs.declared.inputs.Inputs.{Inputs}
use Rattle.p8_inputs.specs.declared.program.Format.{Format}
use Rattle.p8_inputs.specs.declared.program.Format.TheVariants.{Source}
use Rattle.p8_inputs.specs.Inputs.{IsProgram, IsScriptFor}
use Rattle.p8_inputs.specs.Programs.{memory_by, first_by}
use Rattle.p8_inputs.specs.Sources.{IsBuiltFrom}

-- what is run of a source is the image of its project, whose trees are such as are read
abbrev pub HasProperTrees : Files → Format → (file bytes : List ℕ) → Type 0
HasProperTrees files (Source short) file bytes =
    (sources : List NamedSource) × (clock : Clock) × (objects : List ObjectPart)
    × IsBuiltFrom files short file sources clock objects × AreProper sources × (bytes ≡ image_of clock objects)
HasProperTrees files format file bytes = Unit {0}

-- the boot is that of the file to run, and the pin script is the one that is named
abbrev pub Begins : Files → Format → (file : List ℕ) → (script : Option (List ℕ)) → Inputs → Type 0
Begins files format file script inputs =
    (bytes : List ℕ) × IsProgram files format file bytes × HasProperTrees files format file bytes
    × (inputs.boot.ram ≡ memory_by format bytes) × (inputs.boot.first ≡ first_by format bytes) × IsScriptFor files script inputs.script
