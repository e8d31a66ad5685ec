-- internal
-- One more line of text.
use Rattle.std.specs.Prelude.{◌≡◌, ◌<◌, ◌⊎◌, List, [], ◌∷◌, ◌++◌, ℕ, true, false, length}
use Rattle.p8_access.specs.Worlds.{Line}
use Rattle.p8_pins.specs.Scripts.{is_skipped, Carries, most_lines}
use Rattle.p8_pins.specs.Changes.{clock_of}

-- a line with this clock may follow a script
pub record Follows (script : List Line) (clock : ℕ) : Type 0 where
  pub room : length script < most_lines
  pub later : (k : ℕ) → k < length script → clock_of script k < clock

-- a text was taken into a script
pub record Carried (before : List Line) (text : List ℕ) (after : List Line) (line : Line) : Type 0 where
  pub kept : is_skipped text ≡ false
  pub carries : Carries text line
  pub follows : Follows before line.clock
  pub added : after ≡ before ++ line ∷ []

abbrev pub Takes : List Line → List ℕ → List Line → Type 0
Takes before text after =
    ((is_skipped text ≡ true) × (after ≡ before)) ⊎ ((line : Line) × Carried before text after line)

-- a text can't be taken into a script
pub record Stops (before : List Line) (text : List ℕ) : Type 0 where
  pub kept : is_skipped text ≡ false
  pub none : (line : Line) → Carries text line → Follows before line.clock → ⊥
