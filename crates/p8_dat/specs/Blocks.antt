-- All DAT blocks of a file together, as one: bytes, labels and faults. ORG 0 stands before the file's first line, and regions of
-- local labels go on over blocks.
use Rattle.std.specs.Prelude.{◌⊎◌, ℕ, List, [], ◌∷◌, ◌++◌}
use Rattle.p8_tree.specs.Sources.{BlockTree, Dat, Line, Source}
use Rattle.p8_tree.specs.declared.faults.Fault.{Fault}
use Rattle.p8_fold.specs.Meanings.{Setting}
use Rattle.p8_dat.specs.declared.spots.Spot.{Spot}
use Rattle.p8_dat.specs.Spots.{Placed, placed}
use Rattle.p8_dat.specs.Names.{without_labels, with_labels, Region, regions, names_in}
use Rattle.p8_dat.specs.Bytes.{lines_bytes}
use Rattle.p8_dat.specs.Faults.{FaultInLines}

-- the lines of a DAT block, and of all
abbrev pub block_lines : BlockTree → List Line
block_lines (Dat xs) = xs
block_lines b = []

abbrev pub dat_lines : Source → List Line
dat_lines [] = []
dat_lines (b ∷ bs) = block_lines b ++ dat_lines bs

-- where a file's DAT begins, by its offset in the object
abbrev pub first_spot : ℕ → Spot
first_spot start = record { offset = start; cog = 0 }

-- base says what names mean that are no labels
abbrev pub counts_setting : Setting → Source → Setting
counts_setting base file = without_labels base (dat_lines file)

abbrev pub placed_lines : Setting → ℕ → Source → List Placed
placed_lines base start file = placed (counts_setting base file) (dat_lines file) (first_spot start)

abbrev pub values_setting : Setting → ℕ → Source → Setting
values_setting base start file = with_labels base (placed_lines base start file)

-- regions, one after the other; s is the setting of counts, t says what labels of the file mean
abbrev pub regions_bytes : Setting → Setting → List Region → List ℕ
regions_bytes s t [] = []
regions_bytes s t (r ∷ rs) = lines_bytes s (names_in t r) r ++ regions_bytes s t rs

abbrev pub FaultInRegions : Setting → Setting → List Region → Fault → Type 0
FaultInRegions s t [] f = ⊥
FaultInRegions s t (r ∷ rs) f = FaultInLines s (names_in t r) r f ⊎ FaultInRegions s t rs f

-- the bytes of a file's DAT
abbrev pub dat_bytes : Setting → ℕ → Source → List ℕ
dat_bytes base start file =
    regions_bytes (counts_setting base file) (values_setting base start file) (regions (placed_lines base start file))

-- what is wrong with it
abbrev pub IsDatFault : Setting → ℕ → Source → Fault → Type 0
IsDatFault base start file f =
    FaultInRegions (counts_setting base file) (values_setting base start file) (regions (placed_lines base start file)) f
