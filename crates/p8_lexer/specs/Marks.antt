-- internal: where the search for a word may begin.
use Rattle.std.specs.Prelude.{ℕ, ◌≡◌, ◌+◌, ◌*◌, ◌≤◌, List, [], ◌∷◌, length, drop}
use Rattle.std.proofs.Props.{props}
use Rattle.p8_tree.specs.declared.places.Place.{Place}
use Rattle.p8_tree.specs.Places.{PlaceBefore}
use Rattle.p8_lexer.specs.Places.{start}
use Rattle.p8_lexer.specs.declared.spelling.Checkpoint.{Checkpoint}
use Rattle.p8_lexer.specs.Spelling.{word_at}

-- a mark lies within a text, and its place isn't too far
abbrev pub LiesIn : (text : List ℕ) → Checkpoint → Type 0
LiesIn text m = (m.at ≤ length text) × (m.place.line ≤ m.at + 1) × (1 ≤ m.place.column) × (m.place.column ≤ 8 * m.at + 1)

-- the word at a place is found from a mark on
abbrev pub LeadsTo : (text : List ℕ) → Place → Checkpoint → Type 0
LeadsTo text place m = word_at place 0 start text ≡ word_at place m.before m.place (drop m.at text)

-- from a mark each word is found that begins behind it
abbrev pub IsMark : (text : List ℕ) → Checkpoint → Type 0
IsMark text m = LiesIn text m × ((place : Place) → PlaceBefore m.place place → LeadsTo text place m)

abbrev pub AreMarks : (text : List ℕ) → List Checkpoint → Type 0
AreMarks text [] = Unit {0}
AreMarks text (m ∷ marks) = IsMark text m × AreMarks text marks

pub is_prop-AreMarks : (text : List ℕ) (marks : List Checkpoint) → IsProp (AreMarks text marks)
is_prop-AreMarks text [] = hlevel props
is_prop-AreMarks text (m ∷ marks) = hlevel (props, is_prop-AreMarks text marks)
