-- The labels of a file's DAT.
use Rattle.std.specs.Prelude.{ℕ, if◌then◌else◌, List, [], ◌∷◌, Option, Some, None}
use Rattle.p8_tree.specs.Names.{is_local}
use Rattle.p8_kinds.specs.declared.kinds.Kinds.{Kinds}
use Rattle.p8_kinds.specs.declared.name_kinds.Label.{Label}
use Rattle.p8_kinds.specs.declared.name_kinds.NameKind.{NameKind}
use Rattle.p8_kinds.specs.declared.name_kinds.NameKind.TheVariants as kind
use Rattle.p8_kinds.specs.Kinds.{own}
use Rattle.p8_dat.specs.declared.spots.Spot.{Spot}
use Rattle.p8_dat.specs.Spots.{Placed}

-- the size of a label to Spin, as its kind has it; a name that isn't a label's counts as one of longs
abbrev pub size_of_kind : Option NameKind → ℕ
size_of_kind (Some (kind.Label size)) = size
size_of_kind _ = 4

-- a label that stands here
abbrev pub label_of : Kinds → List ℕ → Spot → Label
label_of kinds n p = record { name = n; offset = p.offset; cog = p.cog; size = size_of_kind (own kinds 0 n) }

abbrev pub with_label_of : Kinds → Option (List ℕ) → Spot → List Label → List Label
with_label_of kinds None p rest = rest
with_label_of kinds (Some n) p rest = if is_local n then rest else label_of kinds n p ∷ rest

-- the labels of the whole file, in the order of their lines
abbrev pub labels_of : Kinds → List Placed → List Label
labels_of kinds [] = []
labels_of kinds (x ∷ xs) = with_label_of kinds x.line.label x.at (labels_of kinds xs)
