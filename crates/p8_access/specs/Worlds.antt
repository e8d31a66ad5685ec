-- What a run is given.
use Rattle.std.specs.Prelude.{ℕ, nat_le, if◌then◌else◌, List, [], ◌∷◌}
use Rattle.p8_access.specs.declared.kinds.Origin.{Origin}

-- a line of a pin script: from this clock on the input pins have these levels
pub record Line : Type 0 where
  pub clock : ℕ
  pub levels : ℕ

-- the boot's 32,768 bytes of hub memory and what cog 0 is started with, the pin script, and the limits
pub record World : Type 0 where
  pub memory : List ℕ
  pub first : Origin
  pub script : List Line
  pub clocks : ℕ
  pub turns : ℕ

-- the levels of the input pins: those of the last line whose clock isn't later, else these
abbrev pub levels_after : ℕ → List Line → ℕ → ℕ
levels_after before [] clock = before
levels_after before (line ∷ lines) clock =
    if nat_le line.clock clock then levels_after line.levels lines clock else before

-- before the first line all are 0
abbrev pub level_at : List Line → ℕ → ℕ
level_at lines clock = levels_after 0 lines clock
