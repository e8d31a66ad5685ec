-- A text as the items of a STRING: stretches of characters in quotes, and other bytes as numbers (this project's profile).
use Rattle.std.specs.Prelude.{ℕ, ◌==◌, ◌&&◌, not, nat_le, Bool, if◌then◌else◌, List, [], ◌∷◌, ◌++◌, map, codes}
use Rattle.std.specs.Fmt.{decimal}

-- what can stand in quotes: not a control character, nor a quote
abbrev pub is_quotable : ℕ → Bool
is_quotable c = nat_le 32 c && (not (c == 34) && not (c == 127))

-- a byte in front of stretches: it joins the first one where both can stand in quotes
abbrev pub in_front : ℕ → List (List ℕ) → List (List ℕ)
in_front c ((d ∷ ds) ∷ stretches) = if is_quotable c && is_quotable d then (c ∷ d ∷ ds) ∷ stretches else (c ∷ []) ∷ (d ∷ ds) ∷ stretches
in_front c stretches = (c ∷ []) ∷ stretches

abbrev pub stretches_of : List ℕ → List (List ℕ)
stretches_of [] = []
stretches_of (c ∷ text) = in_front c (stretches_of text)

-- a stretch in quotes, or a byte by its number
abbrev pub quoted : List ℕ → List ℕ
quoted text = 34 ∷ text ++ 34 ∷ []

abbrev pub item_text : List ℕ → List ℕ
item_text [] = quoted []
item_text (c ∷ cs) = if is_quotable c then quoted (c ∷ cs) else decimal c

-- items with commas between them
abbrev pub joined : List (List ℕ) → List ℕ
joined [] = []
joined (item ∷ []) = item
joined (item ∷ items) = item ++ (codes ", " ++ joined items)

abbrev pub items_text : (text : List ℕ) → List ℕ
items_text [] = quoted []
items_text text = joined (map item_text (stretches_of text))
