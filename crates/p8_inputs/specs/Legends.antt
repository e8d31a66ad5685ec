-- The legend of what is run (this project's profile).
use Rattle.std.specs.Prelude.{ℕ, ◌≡◌, false, List, [], Option, Some, None}
use Rattle.p8_io.specs.Shelves.{Files}
use Rattle.p8_legend.specs.declared.legend.Legend.{Legend}
use Rattle.p8_legend.specs.declared.ranges.Ranges.{Ranges}
use Rattle.p8_legend.specs.Ranges.{range_named}
use Rattle.p8_inputs.specs.declared.program.Format.{Format}
use Rattle.p8_inputs.specs.declared.program.Format.TheVariants.{Source}
use Rattle.p8_inputs.specs.Sources.{IsProjectLegend}

-- a legend that tells nothing
abbrev pub IsEmpty : Ranges → Type 0
IsEmpty ranges = (ranges.ranges ≡ []) × (ranges.texts ≡ [])

abbrev pub TellsNothing : Legend → Type 0
TellsNothing legend = IsEmpty legend.names × IsEmpty legend.places × IsEmpty legend.lines × IsEmpty legend.locals

-- This legend is that of what is run: of the project of a source, whose code isn't short, and of anything else one that tells nothing.
abbrev pub IsLegendFrom : Files → Format → (file : List ℕ) → Legend → Type 0
IsLegendFrom files (Source false) file legend = IsProjectLegend files file legend
IsLegendFrom files format file legend = TellsNothing legend

-- the address and the size of what has this name
abbrev pub range_in : Legend → (name : List ℕ) → Option (ℕ × ℕ)
range_in legend name = range_named legend.names.ranges legend.names.texts name

-- the name has a range in a legend, where one is asked for
abbrev pub HasName : Legend → Option (List ℕ) → Type 0
HasName legend None = Unit {0}
HasName legend (Some name) = (range : ℕ × ℕ) × (range_in legend name ≡ Some range)
