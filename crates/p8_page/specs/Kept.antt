-- Which changes of a list a page has.
use Rattle.std.specs.Prelude.{ℕ, ◌==◌, ◌&&◌, not, nat_lt, if◌then◌else◌, List, [], ◌∷◌, ◌++◌}
use Rattle.p8_access.specs.Worlds.{Line}

-- those before an end by which the pins aren't what they were before
abbrev pub kept : (before end : ℕ) → List Line → List Line
kept before end [] = []
kept before end (line ∷ lines) = (if nat_lt line.clock end && not (line.levels == before) then line ∷ [] else []) ++ kept line.levels end lines
