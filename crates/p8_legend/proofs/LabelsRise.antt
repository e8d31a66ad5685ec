-- The labels of a file's DAT rise, from where the DAT begins to where its bytes end.
use Rattle.std.proofs.Common.{◌≡◌, ℕ, ◌+◌, ◌≤◌, Bool, true, false, if◌then◌else◌, List, [], ◌∷◌, length, drop, Option, Some, None, subst, arith}
use Rattle.p8_tree.specs.declared.places.Place.{Place}
use Rattle.p8_tree.specs.Sources as trees
use Rattle.p8_tree.specs.Sources.{Contents, Datum, Line, Source}
use Rattle.p8_tree.specs.Proper.{IsProperFile}
use Rattle.p8_tree.specs.Names.{is_local}
use Rattle.p8_fold.specs.Meanings.{Setting}
use Rattle.p8_kinds.specs.declared.kinds.Kinds.{Kinds}
use Rattle.p8_kinds.specs.declared.name_kinds.Label.{Label}
use Rattle.p8_dat.specs.declared.spots.Spot.{Spot}
use Rattle.p8_dat.specs.Spots.{limit, behind_item, behind_items, begun, ended, behind, placed}
use Rattle.p8_dat.specs.Names.{regions}
use Rattle.p8_dat.specs.Blocks.{dat_lines, first_spot, counts_setting, placed_lines, values_setting, dat_bytes}
use Rattle.p8_dat.specs.Labels.{label_of, with_label_of, labels_of}
use Rattle.p8_map.specs.Names.{spelled_labels}
use Rattle.p8_opt.proofs.Labelled.{lines_size, regions-fit, parted, placed-proper, dat-proper}
use Rattle.p8_legend.proofs.AllNames.{Rise}

-- ---- labels

pub lower : (start from to : ℕ) (labels : List Label) → start ≤ from → Rise from to labels → Rise start to labels
lower start from to [] less is = omega (arith, less, is)
lower start from to (label ∷ labels) less is = let first = is.0 in (omega (arith, less, first), is.1)

local-by : (b : Bool) (x : Label) (labels : List Label) (from to : ℕ) → from ≤ x.offset → Rise x.offset to labels → Rise from to (if b then labels else x ∷ labels)
local-by true x labels from to less rest = lower from x.offset to labels less rest
local-by false x labels from to less rest = (less, rest)

label-by : (kinds : Kinds) (label : Option (List ℕ)) (p : Spot) (labels : List Label) (from to : ℕ) → from ≤ p.offset → Rise p.offset to labels → Rise from to (with_label_of kinds label p labels)
label-by kinds None p labels from to less rest = lower from p.offset to labels less rest
label-by kinds (Some n) p labels from to less rest = local-by (is_local n) (label_of kinds n p) labels from to less rest

-- offsets go forward, up to their limit
items-forward : (s : Setting) (size : ℕ) (xs : List Datum) (p : Spot) → p.offset ≤ limit → (p.offset ≤ (behind_items s size xs p).offset) × ((behind_items s size xs p).offset ≤ limit)
items-forward s size [] p low = (omega arith, low)
items-forward s size (x ∷ xs) p low =
    let rest = items-forward s size xs (behind_item s size x p) (omega arith) in
    let first = rest.0 in
    (omega (arith, first, low), rest.1)

pub begun-forward : (s : Setting) (c : Contents) (p : Spot) → p.offset ≤ limit → (p.offset ≤ (begun s c p).offset) × ((begun s c p).offset ≤ limit)
begun-forward s trees.Nothing p low = (omega (arith, low), omega arith)
begun-forward s (trees.Data size xs) p low = (omega (arith, low), omega arith)
begun-forward s (trees.Org e) p low = (omega (arith, low), omega arith)
begun-forward s (trees.Res e) p low = (omega (arith, low), omega arith)
begun-forward s (trees.Fit e) p low = (omega (arith, low), omega arith)
begun-forward s (trees.Instr x) p low = (omega (arith, low), omega arith)

pub ended-forward : (s : Setting) (c : Contents) (p : Spot) → p.offset ≤ limit → (p.offset ≤ (ended s c p).offset) × ((ended s c p).offset ≤ limit)
ended-forward s trees.Nothing p low = (omega arith, low)
ended-forward s (trees.Data size xs) p low = items-forward s size xs p low
ended-forward s (trees.Org e) p low = (omega arith, low)
ended-forward s (trees.Res e) p low = (omega arith, low)
ended-forward s (trees.Fit e) p low = (omega arith, low)
ended-forward s (trees.Instr x) p low = (omega (arith, low), omega arith)

lines-rise : (kinds : Kinds) (s : Setting) (xs : List Line) (p : Spot) → p.offset ≤ limit → Rise p.offset (p.offset + lines_size s (placed s xs p)) (labels_of kinds (placed s xs p))
lines-rise kinds s [] p low = omega arith
lines-rise kinds s (x ∷ xs) p low =
    let at = begun s x.contents p in
    let first = begun-forward s x.contents p low in
    let second = ended-forward s x.contents at first.1 in
    let rest = lines-rise kinds s xs (behind s x p) second.1 in
    let from = first.0 in
    let to = second.0 in
    let end : (behind s x p).offset + lines_size s (placed s xs (behind s x p)) ≡ p.offset + lines_size s (placed s (x ∷ xs) p) = omega (arith, from, to) in
    label-by kinds x.label at (labels_of kinds (placed s xs (behind s x p))) p.offset (p.offset + lines_size s (placed s (x ∷ xs) p)) from
    (lower at.offset (behind s x p).offset (p.offset + lines_size s (placed s (x ∷ xs) p)) (labels_of kinds (placed s xs (behind s x p))) to
    (subst (λ n. Rise (behind s x p).offset n (labels_of kinds (placed s xs (behind s x p)))) end rest))

pub higher : (from mid to : ℕ) (labels : List Label) → mid ≤ to → Rise from mid labels → Rise from to labels
higher from mid to [] less is = omega (arith, less, is)
higher from mid to (label ∷ labels) less is = (is.0, higher label.offset mid to labels less is.1)

-- ---- a file

-- from where a file's DAT begins to where its bytes end
pub file-rise : (kinds : Kinds) (base : Setting) (start : ℕ) (file : Source) → IsProperFile file → start ≤ limit → Rise start (start + length (dat_bytes base start file)) (labels_of kinds (placed_lines base start file))
file-rise kinds base start file proper low =
    let s = counts_setting base file in
    let xs = placed_lines base start file in
    let parts = parted s xs (placed-proper s (dat_lines file) (first_spot start) (dat-proper file proper)) in
    let fits = regions-fit s (values_setting base start file) (regions xs) parts.proper in
    higher start (start + lines_size s xs) (start + length (dat_bytes base start file)) (labels_of kinds xs) (omega (arith, parts.size_is, fits)) (lines-rise kinds s (dat_lines file) (first_spot start) low)

-- and so they do as they are spelled
pub spelled-rise : (text : List ℕ) (places : List Place) (labels : List Label) (from to : ℕ) → Rise from to labels → Rise from to (spelled_labels text places labels)
spelled-rise text places [] from to is = is
spelled-rise text places (label ∷ labels) from to is = (is.0, spelled-rise text (drop 1 places) labels label.offset to is.1)

pub wider : (start from to high : ℕ) (labels : List Label) → start ≤ from → to ≤ high → Rise from to labels → Rise start high labels
wider start from to high labels less more is = higher start to high labels more (lower start from to labels less is)
