-- How many words a cut takes. A word has four bytes.
use Rattle.std.specs.Prelude.{ℕ, ◌+◌, ◌*◌, ◌/◌}
use Rattle.std.specs.Mem.{type_size}
use prog.Memory.{capped}
use denote.RattleType.{RattleType}

-- the least even number of words that hold so many bytes
abbrev pub even_words : ℕ → ℕ
even_words bytes = 2 * ((bytes + 7) / 8)

-- what n values ask of a region; capped x is x, but at most the greatest usize
abbrev pub words_asked : RattleType → ℕ → ℕ
words_asked R n = capped (even_words (n * capped (type_size R)))
