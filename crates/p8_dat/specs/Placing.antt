-- What the code's lists of lines stand for, and settings as the code has them: internal.
use Rattle.std.specs.Prelude.{◌≡◌, ℕ, suc, Bool, true, false, ◌&&◌, ◌||◌, if◌then◌else◌, List, [], ◌∷◌, Option, Some, None}
use Rattle.std.specs.Str.{bytes_eq}
use Rattle.p8_tree.specs.Views.{line_of}
use Rattle.p8_tree.specs.Names.{is_local}
use Rattle.p8_fold.specs.declared.meanings.Meaning.TheVariants as meaning_case
use Rattle.p8_fold.specs.Meanings.{Setting, outside_operands}
use Rattle.p8_dat.specs.declared.placing.Placed as code
use Rattle.p8_dat.specs.Spots.{Placed}
use Rattle.p8_dat.specs.Names.{with_label, is_named}

abbrev pub placed_of : code.Placed → Placed
placed_of x = record { line = line_of x.line.now; from = x.from; at = x.at }

-- the setting after a region, in which its local labels mean nothing again
abbrev pub without_local : Setting → Placed → Setting
without_local s x = if is_named x.line.label then s else with_label x.line.label meaning_case.Other s

-- what names mean, wherever an expression stands
abbrev pub unplaced : Setting → Setting
unplaced s = record s { here = outside_operands None }

-- how many lines stand before the next label of the file
abbrev pub unnamed_length : List Placed → ℕ
unnamed_length [] = 0
unnamed_length (x ∷ xs) = if is_named x.line.label then 0 else suc (unnamed_length xs)

-- how many lines the first region has
abbrev pub region_length : List Placed → ℕ
region_length [] = 0
region_length (x ∷ xs) = suc (unnamed_length xs)

-- whether a line among these has this local label
abbrev pub is_local_label : Option (List ℕ) → List ℕ → Bool
is_local_label None n = false
is_local_label (Some m) n = is_local m && bytes_eq n m

abbrev pub has_local : List Placed → List ℕ → Bool
has_local [] n = false
has_local (x ∷ xs) n = is_local_label x.line.label n || has_local xs n

-- no local label of these lines has a value
pub record AreHidden (s : Setting) (xs : List Placed) : Type 0 where
  pub each : (n : List ℕ) → has_local xs n ≡ true → s.name n ≡ Some meaning_case.Other
