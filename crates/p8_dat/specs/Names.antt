-- What names mean in the lines of DAT: a label stands for its cog address in longs, and `@` and a label for its offset.
--
-- Labels that begin with `:` are local: such a label is seen from the label of the whole file before it up to the next one.
-- ORG, RES and FIT and the counts of data stand before any label is placed, so no label has a value there. Source: the Propeller
-- Manual v1.2, "DAT" of the Spin chapter and "Local Labels" of the assembly chapter; the last rule is this project's profile.
use Rattle.std.specs.Prelude.{ℕ, ◌/◌, ◌==◌, Bool, false, not, if◌then◌else◌, List, [], ◌∷◌, Option, Some, None, fold}
use Rattle.std.specs.Str.{bytes_eq}
use Rattle.p8_tree.specs.Sources.{Line}
use Rattle.p8_tree.specs.Names.{is_local}
use Rattle.p8_fold.specs.declared.meanings.Meaning.{Meaning}
use Rattle.p8_fold.specs.declared.meanings.Meaning.TheVariants as meaning_case
use Rattle.p8_fold.specs.Meanings.{Setting, outside_operands}
use Rattle.p8_dat.specs.declared.spots.Spot.{Spot}
use Rattle.p8_dat.specs.Spots.{Placed}

-- a setting in which a name has this meaning
abbrev pub entered : List ℕ → Meaning → Setting → Setting
entered n m s = record s { name = λ x. if bytes_eq x n then Some m else s.name x }

abbrev pub with_label : Option (List ℕ) → Meaning → Setting → Setting
with_label None m s = s
with_label (Some n) m s = entered n m s

-- what a label means that stands here
abbrev pub label_at : Spot → Meaning
label_at p = meaning_case.Label (p.cog / 4) p.offset

-- a line with a label of the whole file
abbrev pub is_named : Option (List ℕ) → Bool
is_named None = false
is_named (Some n) = not (is_local n)

-- ---- where no label has a value

abbrev pub hidden : Setting → Line → Setting
hidden s x = with_label x.label meaning_case.Other s

-- the setting of ORG, RES, FIT and counts, in which `$` has no value either
abbrev pub without_labels : Setting → List Line → Setting
without_labels s xs = record (fold hidden s xs) { here = outside_operands None }

-- ---- where labels have values

-- what a label means to all lines: a local one nothing
abbrev pub common : Placed → Meaning
common x = if is_named x.line.label then label_at x.at else meaning_case.Other

abbrev pub with_common : Setting → Placed → Setting
with_common s x = with_label x.line.label (common x) s

abbrev pub with_labels : Setting → List Placed → Setting
with_labels s xs = fold with_common s xs

-- lines from one label of the whole file up to the next one
abbrev pub Region : Type 0
Region = List Placed

-- a line in front of the regions after it: it belongs to the first of them, unless that begins with a label of the file
abbrev pub in_front : Placed → List Region → List Region
in_front x [] = (x ∷ []) ∷ []
in_front x ([] ∷ rs) = (x ∷ []) ∷ rs
in_front x ((y ∷ ys) ∷ rs) = if is_named y.line.label then (x ∷ []) ∷ (y ∷ ys) ∷ rs else (x ∷ y ∷ ys) ∷ rs

abbrev pub regions : List Placed → List Region
regions [] = []
regions (x ∷ xs) = in_front x (regions xs)

-- a local label, to the lines of its region
abbrev pub with_local : Setting → Placed → Setting
with_local s x = if is_named x.line.label then s else with_label x.line.label (label_at x.at) s

-- the names of the lines of a region
abbrev pub names_in : Setting → Region → Setting
names_in s xs = fold with_local s xs
