-- What a snapshot shows.
use Rattle.std.proofs.Common.{◌≡◌, ◌∙◌, refl, sym, ap, subst, ℕ, zero, suc, ◌-◌, ◌%◌, ◌<◌, ◌≤◌, min, List, [], ◌++◌, map, get_or, Bool, true, false, reverse, Option, Some, None, IfSome, arith}
use Rattle.std.proofs.lemmas.List.{append-nil}
use Rattle.p8_access.specs.declared.order.Turn.{Turn}
use Rattle.p8_access.specs.declared.states.CogState.{CogState}
use Rattle.p8_access.specs.declared.states.CogState.TheVariants as state
use Rattle.p8_access.specs.Worlds.{World, level_at}
use Rattle.p8_access.specs.Histories.{Rises}
use Rattle.p8_access.specs.Hub.{cogs, cog_state, is_set, is_taken}
use Rattle.p8_access.specs.Pins.{outa_of, dira_of, pins_at, pins_with, dira, outputs}
use Rattle.p8_pins.specs.Matches.{IsBefore}
use Rattle.p8_pins.specs.Levels.{by, end_of}
use Rattle.p8_wave.specs.declared.courses.Course.{Course}
use Rattle.p8_pins.specs.declared.spans.Span.{Span}
use Rattle.p8_wave.specs.declared.signals.Signals.{Signals}
use Rattle.p8_wave.specs.declared.signals.Phase.TheVariants as phase
use Rattle.p8_wave.specs.declared.snapshot.Snapshot.{Snapshot}
use Rattle.p8_wave.specs.declared.variables.Variable.{Variable}
use Rattle.p8_wave.specs.declared.variables.Variable.TheVariants.{Pin, Outa, Dira, State, Lock, Taken}
use Rattle.p8_wave.specs.Variables.{IsVariable}
use Rattle.p8_wave.specs.Values.{value_of, value_at, state_number, is_halted, bit_of}
use Rattle.p8_wave.specs.Following.{AreSignals, snapshot_value, phase_number, phase_of}
use Rattle.p8_wave.specs.Walks.{IsAt, IsLater, Shows, left_by, taken_by}
use Rattle.p8_wave.proofs.Taking.{same_on, split_on, taken_on, taken, split_taken, left_later}

-- one of eight
at_eight : {X : Type 0} (f : ℕ → X) (d : X) (n : ℕ) → n < 8 → get_or (map f cogs) n d ≡ f n
at_eight f d zero below = refl
at_eight f d (suc zero) below = refl
at_eight f d (suc (suc zero)) below = refl
at_eight f d (suc (suc (suc zero))) below = refl
at_eight f d (suc (suc (suc (suc zero)))) below = refl
at_eight f d (suc (suc (suc (suc (suc zero))))) below = refl
at_eight f d (suc (suc (suc (suc (suc (suc zero)))))) below = refl
at_eight f d (suc (suc (suc (suc (suc (suc (suc zero))))))) below = refl
at_eight f d (suc (suc (suc (suc (suc (suc (suc (suc n)))))))) below = absurd (omega arith)

of_eight : {X : Type 0} (xs : List X) (f : ℕ → X) (d : X) (n : ℕ) → xs ≡ map f cogs → n < 8 → get_or xs (n % 8) d ≡ f n
of_eight xs f d n all below =
    let small : n % 8 ≡ n = omega arith in
    rw (small, all) (at_eight f d n below)

number_of : (s : CogState) (halted : Bool) → phase_number (phase_of s halted) ≡ state_number s halted
number_of state.Stopped true = refl
number_of state.Stopped false = refl
number_of (state.Starting since origin) halted = refl
number_of (state.Running origin) halted = refl

-- a snapshot of the signals and the pins after some turns
pub shows_values : (w : World) (past : List Turn) (clock : ℕ) (p : Snapshot) → AreSignals w past p.signals → p.pins ≡ pins_at w past clock
    → (v : Variable) → IsVariable v → snapshot_value p v ≡ value_of w past clock v
shows_values w past clock p s pins (Pin n) below =
    let small : n % 32 ≡ n = omega arith in
    rw (small, pins) refl
shows_values w past clock p s pins (Outa n) below = of_eight p.signals.outa (λ (n : ℕ). outa_of past n) 0 n s.outa below
shows_values w past clock p s pins (Dira n) below = of_eight p.signals.dira (λ (n : ℕ). dira_of past n) 0 n s.dira below
shows_values w past clock p s pins (State n) below =
    ap phase_number (of_eight p.signals.phases (λ (n : ℕ). phase_of (cog_state w past n) (is_halted past n)) phase.Stopped n s.phases below) ∙ number_of (cog_state w past n) (is_halted past n)
shows_values w past clock p s pins (Lock n) below = ap bit_of (of_eight p.signals.set (λ (n : ℕ). is_set past n) false n s.set below)
shows_values w past clock p s pins (Taken n) below = ap bit_of (of_eight p.signals.taken (λ (n : ℕ). is_taken past n) false n s.taken below)

module _ (w : World) (past : List Turn) (clock : ℕ) (p : Snapshot) (levels : ℕ) where
  -- a snapshot of the signals after the turns up to a clock, with the levels that are seen at it
  pub shows : AreSignals w (by past clock) p.signals
      → p.pins ≡ pins_with (dira (by past clock)) (outputs (by past clock)) levels
      → level_at w.script (min clock (end_of w past - 1)) ≡ levels
      → Shows w past clock p
  unfolding value_at
  shows signals pins level = record {
    values = shows_values w (by past clock) (min clock (end_of w past - 1)) p signals (pins ∙ ap (pins_with (dira (by past clock)) (outputs (by past clock))) (sym level));
  }

-- a walk stays where it is up to the next turn and the next line
pub at_later : (w : World) (past : List Turn) (clock later : ℕ) (left : List Turn) (course : Course) → Rises past → clock ≤ later → IsLater later left → IsBefore later course.span.end → IsAt w past clock left course → IsAt w past later left course
at_later w past clock later left course rises order first line at =
    let same : by past later ≡ by past clock = same_on clock later past left order rises at.split first in
    record {
      split = at.split ∙ ap (λ xs. reverse left ++ xs) (sym same);
      later = first;
      line = line;
      signals = rw same at.signals;
      levels = λ u low before. at.levels u (omega arith) before;
    }

-- the snapshot of a walk at a clock before the end
pub shows_at : (w : World) (past : List Turn) (clock : ℕ) (left : List Turn) (course : Course) (p : Snapshot) → IsAt w past clock left course → clock ≤ end_of w past - 1 → p.signals ≡ course.signals
    → p.pins ≡ pins_with (dira (by past clock)) (outputs (by past clock)) course.span.levels → Shows w past clock p
shows_at w past clock left course p at within signals pins =
    let seen : min clock (end_of w past - 1) ≡ clock = omega arith in
    shows w past clock p course.span.levels (rw signals at.signals) pins (rw seen (at.levels clock (omega arith) at.line))

-- a walk goes on to a later clock
pub gone : (w : World) (past : List Turn) (before clock : ℕ) (left left' : List Turn) (course : Course) (signals : Signals) (span : Span) → Rises past → before ≤ clock → IsAt w past before left course → left' ≡ left_by clock left
    → ((done : List Turn) → AreSignals w done course.signals → AreSignals w (taken_by clock left done) signals) → IsBefore clock span.end → ((u : ℕ) → clock ≤ u → IsBefore u span.end → level_at w.script u ≡ span.levels)
    → IsAt w past clock left' (record { signals = signals; span = span })
gone w past before clock left left' course signals span rises order at is_left noted line levels =
    record {
      split = rw is_left (split_on before clock past left order rises at.split);
      later = rw is_left (left_later clock left);
      line = line;
      signals = rw (taken_on before clock past left order rises at.split) (noted (by past before) at.signals);
      levels = levels;
    }

-- the first clock of a walk
pub opened : (w : World) (past turns left' : List Turn) (signals first : Signals) (span : Span) → Rises past → past ≡ reverse turns → left' ≡ left_by 0 turns → AreSignals w [] first
    → ((done : List Turn) → AreSignals w done first → AreSignals w (taken_by 0 turns done) signals) → IsBefore 0 span.end → ((u : ℕ) → IsBefore u span.end → level_at w.script u ≡ span.levels)
    → IsAt w past 0 left' (record { signals = signals; span = span })
opened w past turns left' signals first span rises is_past is_left begun noted line levels =
    let whole : past ≡ reverse turns ++ [] = is_past ∙ sym (append-nil (reverse turns)) in
    let taken_all : by past 0 ≡ taken_by 0 turns [] = ap (λ ts. by ts 0) whole ∙ taken 0 turns [] (subst Rises whole rises) tt in
    record {
      split = rw is_left (whole ∙ sym (split_taken 0 turns []) ∙ ap (λ xs. reverse (left_by 0 turns) ++ xs) (sym taken_all));
      later = rw is_left (left_later 0 turns);
      line = line;
      signals = rw taken_all (noted [] begun);
      levels = λ u low before. levels u before;
    }

-- what the end of a span says
pub before_end : (c : ℕ) (end : Option ℕ) → IfSome end (λ e. c < e) → IsBefore c end
before_end c None h = tt
before_end c (Some e) h = h

-- the snapshot of a walk at the end, where the turns up to it have been taken
pub shows_end : (w : World) (past : List Turn) (end : ℕ) (left : List Turn) (course : Course) (signals : Signals) (p : Snapshot) → Rises past → end ≡ end_of w past → IsAt w past (end - 1) left course
    → ((done : List Turn) → AreSignals w done course.signals → AreSignals w (taken_by end left done) signals) → p.signals ≡ signals
    → ((turns : List Turn) → AreSignals w turns signals → p.pins ≡ pins_with (dira turns) (outputs turns) course.span.levels)
    → Shows w past end p
shows_end w past end left course signals p rises is_end at noted is pins =
    let before : end - 1 ≤ end = omega arith in
    let s : AreSignals w (by past end) signals = rw (taken_on (end - 1) end past left before rises at.split) (noted (by past (end - 1)) at.signals) in
    let seen : min end (end_of w past - 1) ≡ end - 1 = omega arith in
    shows w past end p course.span.levels (rw is s) (pins (by past end) s) (rw seen (at.levels (end - 1) (omega arith) at.line))
