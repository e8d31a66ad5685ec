-- The end of a view: what each cog is doing, how far the history came and why it ended (this project's profile). A past is a list of
-- turns, the newest first.
use Rattle.std.specs.Prelude.{ℕ, ◌==◌, nat_eq, if◌then◌else◌, List, [], ◌∷◌, ◌++◌, length, Option, Some, None, codes}
use Rattle.std.specs.Fmt.{decimal}
use Rattle.std.specs.List.{flat_map}
use Rattle.p8_access.specs.declared.kinds.Origin.{Origin}
use Rattle.p8_access.specs.declared.kinds.Origin.TheVariants.{Pasm}
use Rattle.p8_access.specs.declared.kinds.Access.{Access}
use Rattle.p8_access.specs.declared.kinds.Access.TheVariants.{Begin, Load, CogInit, CogStop, Halt}
use Rattle.p8_access.specs.declared.kinds.Answer.{Answer}
use Rattle.p8_access.specs.declared.order.Turn.{Turn}
use Rattle.p8_access.specs.Worlds.{World}
use Rattle.p8_access.specs.Hub.{cog_state, cogs, is_number, newest, origin_of}
use Rattle.p8_instr.specs.Numerals.{hex}
use Rattle.p8_legend.specs.declared.legend.Legend.{Legend}
use Rattle.p8_machine.specs.declared.asked.Asked.{Asked}
use Rattle.p8_report.specs.Text.{dump_text, reason_text}
use Rattle.p8_view.specs.declared.doings.Asking.{Asking}
use Rattle.p8_view.specs.declared.doings.Doing.{Doing}
use Rattle.p8_view.specs.declared.doings.Doing.TheVariants.{Idle, Starts, Runs, Stops, Halts}
use Rattle.p8_view.specs.declared.turns.ViewOptions.{ViewOptions}
use Rattle.p8_view.specs.Nexts.{asked_of, next_text}
use Rattle.p8_view.specs.View.{counter_of, lines_of}
use Rattle.p8_view.specs.Words.{place_for}

-- what a turn tells of what a cog does from then on: a start of it, its own first turn, a stop of it, and its own halt
abbrev pub doing_by : ℕ → (clock cog : ℕ) → Access → Answer → Option Doing
doing_by n clock cog (CogInit target origin) answer = if is_number n answer then Some (Starts clock) else None
doing_by n clock cog Begin answer = if cog == n then Some (Runs clock) else None
doing_by n clock cog Load answer = if cog == n then Some (Runs clock) else None
doing_by n clock cog (CogStop target) answer = if target == n then Some (Stops clock) else None
doing_by n clock cog (Halt reason) answer = if cog == n then Some (Halts clock reason) else None
doing_by n clock cog _ answer = None

-- at first cog 0 is started, and the others are idle
abbrev pub doing_first : ℕ → Doing
doing_first n = if n == 0 then Starts 0 else Idle

abbrev pub doing : List Turn → ℕ → Doing
doing past n = newest (λ (turn : Turn). doing_by n turn.key.clock turn.key.cog turn.access turn.answer) (doing_first n) past

-- the clock of the last turn of a cog, 0 where it has none
abbrev pub last_of : List Turn → ℕ → ℕ
last_of past n = newest (λ (turn : Turn). if turn.key.cog == n then Some turn.key.clock else None) 0 past

-- By what a cog asked its last turn: what it was started with, and the counter of that turn. The counters are those of the turns, the oldest first.
abbrev pub last_asking : World → List (Option ℕ) → List Turn → (cog : ℕ) → Asking
last_asking w counters [] n = record { own = Pasm 0 0; counter = None }
last_asking w counters (turn ∷ past) n =
    if turn.key.cog == n then record { own = origin_of (cog_state w past turn.key.cog); counter = counter_of counters (length past) }
    else last_asking w counters past n

abbrev pub place_of : Legend → Asking → List ℕ
place_of legend a = place_for legend a.own a.counter

-- A cog that runs: since when, when its last turn was, and what it does next; one that halted: when and why, and the place of what asked that. `own` is what
-- the cog was started with, if it runs, and `asking` by what it asked its last turn.
abbrev pub doing_text : Legend → (clocks : ℕ) → Doing → (last : ℕ) → (asking : Asking) → (own : Origin) → Asked → List ℕ
doing_text legend clocks Idle last asking own asked = codes "is idle"
doing_text legend clocks (Starts clock) last asking own asked = codes "is started at clock " ++ decimal clock ++ codes " and has had no turn yet"
doing_text legend clocks (Runs clock) last asking own asked =
    codes "runs since clock " ++ decimal clock ++ codes ", its last turn is at clock " ++ decimal last ++ next_text legend clocks own asked.counter asked.next
doing_text legend clocks (Stops clock) last asking own asked = codes "is stopped at clock " ++ decimal clock
doing_text legend clocks (Halts clock reason) last asking own asked =
    codes "halts at clock " ++ decimal clock ++ codes ": " ++ reason_text reason ++ place_of legend asking

abbrev pub cog_line : Legend → World → List (Option ℕ) → List Asked → List Turn → ℕ → List ℕ
cog_line legend w counters asked past n =
    codes "cog " ++ decimal n ++ codes " "
    ++ doing_text legend w.clocks (doing past n) (last_of past n) (last_asking w counters past n) (origin_of (cog_state w past n)) (asked_of asked n)
    ++ 10 ∷ []

-- the clock of the last turn of all, 0 where there is none
abbrev pub last_clock : List Turn → ℕ
last_clock [] = 0
last_clock (turn ∷ past) = turn.key.clock

-- how many turns were made, and up to which clock
abbrev pub made_line : (turns clock : ℕ) → List ℕ
made_line turns clock = decimal turns ++ codes " turns are made, the last at clock " ++ decimal clock ++ 10 ∷ []

-- why no more were: there are as many as are allowed, or no cog makes one in time
abbrev pub why_text : (turns limit clocks : ℕ) → List ℕ
why_text turns limit clocks =
    if nat_eq turns limit then codes "no more are asked for; --turns gives more" else codes "no cog makes another before clock " ++ decimal clocks

abbrev pub why_line : (turns limit clocks : ℕ) → List ℕ
why_line turns limit clocks = why_text turns limit clocks ++ 10 ∷ []

abbrev pub end_text : Legend → World → List (Option ℕ) → List Asked → List Turn → List ℕ
end_text legend w counters asked past =
    flat_map (cog_line legend w counters asked past) cogs ++ made_line (length past) (last_clock past) ++ why_line (length past) w.turns w.clocks

-- the dump that is asked for; of what has no byte its address alone, on a line
abbrev pub dumped_text : World → List Turn → (dump : Option (ℕ × ℕ)) → List ℕ
dumped_text w past None = []
dumped_text w past (Some range) = if range.1 == 0 then hex 4 range.0 ++ codes ":" ++ 10 ∷ [] else dump_text w past (Some range)

-- the whole view: the turns that are shown, the end, and the dump where one is asked for
abbrev pub view_of : ViewOptions → Legend → World → List (Option ℕ) → List Asked → List Turn → (dump : Option (ℕ × ℕ)) → List ℕ
view_of options legend w counters asked past dump =
    lines_of options legend w counters past ++ end_text legend w counters asked past ++ dumped_text w past dump
