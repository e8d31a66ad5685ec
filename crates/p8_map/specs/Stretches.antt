-- internal: a text as items, stretch by stretch.
use Rattle.std.specs.Prelude.{ℕ, suc, if◌then◌else◌, List, [], ◌∷◌, codes}
use Rattle.p8_map.specs.Strings.{is_quotable}

-- how many characters at the front of a text can stand in quotes
abbrev pub quotables : List ℕ → ℕ
quotables [] = 0
quotables (c ∷ text) = if is_quotable c then suc (quotables text) else 0

-- how long its first stretch is
abbrev pub stretch_size : List ℕ → ℕ
stretch_size [] = 0
stretch_size (c ∷ text) = if is_quotable c then suc (quotables text) else 1

-- what stands between an item and the text behind it
abbrev pub comma : (behind : List ℕ) → List ℕ
comma [] = []
comma (c ∷ text) = codes ", "
