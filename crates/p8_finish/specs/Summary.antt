-- A made program's run, and the text about its history (this project's profile). A past is a list of turns, the newest
-- first.
use Rattle.std.specs.Prelude.{ℕ, ◌+◌, ◌*◌, ◌%◌, ◌^◌, List, [], ◌∷◌, ◌++◌, codes, length, map, sum}
use Rattle.std.specs.Fmt.{decimal}
use Rattle.std.specs.List.{range_with_len}
use Rattle.p8_access.specs.declared.kinds.Origin.TheVariants.{Pasm}
use Rattle.p8_access.specs.declared.kinds.Width.TheVariants.{Long}
use Rattle.p8_access.specs.declared.order.Key.{Key}
use Rattle.p8_access.specs.declared.order.Turn.{Turn}
use Rattle.p8_access.specs.Boots.{ram_of}
use Rattle.p8_access.specs.Worlds.{World}
use Rattle.p8_access.specs.Hub.{value_at}
use Rattle.p8_instr.specs.Numerals.{hex}
use Rattle.p8_finish.specs.Made.{made_bytes}

-- the run: the made program as PASM in cog 0 with code $0000 and PAR $0000, without a pin script, below clock 100,000
-- and with at most 100,000 turns
abbrev pub made_world : ℕ → World
made_world seed = record { memory = ram_of (made_bytes seed); first = Pasm 0 0; script = []; clocks = 100000; turns = 100000 }

-- the key of the last turn; there is one after each run, since cog 0 begins
abbrev pub last_key : List Turn → Key
last_key [] = record { clock = 0; cog = 0 }
last_key (turn ∷ past) = turn.key

-- the sum of the 16 longs of the hub from $1000 on, in 32 bits
unfoldable pub sum_of_words : World → List Turn → ℕ
sum_of_words w past = sum (map (λ (j : ℕ). value_at w past Long (4096 + 4 * j)) (range_with_len 0 16)) % 2 ^ 32

-- the line of the last turn: its clock, its cog
abbrev pub last_line : Key → List ℕ
last_line key = codes "last " ++ decimal key.clock ++ codes " " ++ decimal key.cog ++ 10 ∷ []

-- the text: the seed, how many turns there are, the last of them, and the sum
abbrev pub summary_of : (seed : ℕ) → World → List Turn → List ℕ
summary_of seed w past =
    (codes "made " ++ decimal seed ++ 10 ∷ [])
    ++ (codes "turns " ++ decimal (length past) ++ 10 ∷ [])
    ++ last_line (last_key past)
    ++ (codes "words " ++ hex 8 (sum_of_words w past) ++ 10 ∷ [])
