-- What ended a run, in the words of a view (this project's profile). A past is a list of turns, the newest first.
use Rattle.std.specs.Prelude.{ℕ, nat_eq, if◌then◌else◌, List, [], ◌∷◌, ◌++◌, length, codes}
use Rattle.std.specs.Fmt.{decimal}
use Rattle.p8_access.specs.declared.order.Turn.{Turn}
use Rattle.p8_access.specs.Worlds.{World}

-- the clock of the last turn, 0 where there is none
abbrev pub last_clock : List Turn → ℕ
last_clock [] = 0
last_clock (turn ∷ past) = turn.key.clock

-- how many turns were made, and up to which clock
abbrev pub made_text : (turns last : ℕ) → List ℕ
made_text turns last = decimal turns ++ codes " turns are made, the last at clock " ++ decimal last

-- why no more were: there are as many as are allowed, of all the clocks that were asked for; or no cog makes one in time
abbrev pub enough_text : (clocks : ℕ) → List ℕ
enough_text clocks = codes " of " ++ decimal clocks ++ codes ": no more are asked for; --turns gives more"

abbrev pub none_text : (clocks : ℕ) → List ℕ
none_text clocks = codes ": no cog makes another before clock " ++ decimal clocks

abbrev pub why_text : (turns limit clocks : ℕ) → List ℕ
why_text turns limit clocks = if nat_eq turns limit then enough_text clocks else none_text clocks

abbrev pub ended_text : (turns last limit clocks : ℕ) → List ℕ
ended_text turns last limit clocks = made_text turns last ++ why_text turns limit clocks

abbrev pub end_text : World → List Turn → List ℕ
end_text w past = ended_text (length past) (last_clock past) w.turns w.clocks
