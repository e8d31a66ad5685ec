-- Where a character stands: lines end at LF, CR LF or CR, and a tab goes to the next column of the form 8k + 1.
use Rattle.std.specs.Prelude.{ℕ, ◌+◌, ◌-◌, ◌*◌, ◌/◌, ◌==◌, if◌then◌else◌, List, [], ◌∷◌, take}
use Rattle.p8_tree.specs.declared.places.Place.{Place}

-- the place where a text begins
abbrev pub start : Place
start = record { line = 1; column = 1 }

abbrev pub next_line : Place → Place
next_line p = record { line = p.line + 1; column = 1 }

abbrev pub next_column : Place → Place
next_column p = record { line = p.line; column = p.column + 1 }

-- the least column of the form 8k + 1 after this one
abbrev pub next_tab : Place → Place
next_tab p = record { line = p.line; column = 8 * ((p.column - 1) / 8) + 9 }

-- the place after a character: LF (10) ends a line unless it stands after CR (13), which has ended it
abbrev pub behind : ℕ → Place → ℕ → Place
behind before p c =
    if c == 10 then (if before == 13 then p else next_line p) else
    (if c == 13 then next_line p else
    (if c == 9 then next_tab p else next_column p))

-- the place after characters that stand after another
abbrev pub place_behind : ℕ → Place → List ℕ → Place
place_behind before p [] = p
place_behind before p (c ∷ cs) = place_behind c (behind before p c) cs

-- the place of the character of this number, from 0
abbrev pub place_of : List ℕ → ℕ → Place
place_of text n = place_behind 0 start (take n text)
