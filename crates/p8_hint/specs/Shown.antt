-- internal: the lines of a file.
use Rattle.std.specs.Prelude.{◌≡◌, ℕ, zero, suc, Bool, true, false, List, [], ◌∷◌, ◌++◌, map, Vec}
use Rattle.std.specs.declared.alloc.Global.{Global}
use Rattle.p8_hint.specs.declared.lines.Lines.{Lines}

abbrev pub items_of : List (Vec ℕ Global) → List (List ℕ)
items_of vs = map (λ (v : Vec ℕ Global). v.items) vs

-- the line of this number, counted from 0, of these lines and a last one
abbrev pub line_in : List (List ℕ) → (last : List ℕ) → ℕ → List ℕ
line_in [] last zero = last
line_in [] last (suc n) = []
line_in (l ∷ ls) last zero = l
line_in (l ∷ ls) last (suc n) = line_in ls last n

-- the line of this number, counted from 1
abbrev pub shown_line : Lines → ℕ → List ℕ
shown_line lines zero = []
shown_line lines (suc n) = line_in (items_of lines.lines.items) lines.last.items n

-- a line more, if the last one is ended
abbrev pub IsEnded : Bool → Lines → Lines → Type 0
IsEnded true old new = (items_of new.lines.items ≡ items_of old.lines.items ++ old.last.items ∷ []) × (new.last.items ≡ [])
IsEnded false old new = (items_of new.lines.items ≡ items_of old.lines.items) × (new.last.items ≡ old.last.items)
