-- The value of each variable of a wave at each clock, and when it changes. A past is a list of turns, the
-- newest first.
use Rattle.std.specs.Prelude.{ℕ, ◌-◌, ◌/◌, ◌%◌, ◌^◌, ◌==◌, ◌||◌, nat_eq, min, not, if◌then◌else◌, Bool, true, false, List, Option, Some, None, filter}
use Rattle.std.specs.List.{range_with_len, list_any}
use Rattle.p8_access.specs.declared.kinds.Access.{Access}
use Rattle.p8_access.specs.declared.kinds.Access.TheVariants.{CogStop, Halt}
use Rattle.p8_access.specs.declared.order.Turn.{Turn}
use Rattle.p8_access.specs.declared.states.CogState.{CogState}
use Rattle.p8_access.specs.declared.states.CogState.TheVariants.{Stopped, Starting, Running}
use Rattle.p8_access.specs.Worlds.{World}
use Rattle.p8_access.specs.Hub.{newest, cog_state, is_set, is_taken}
use Rattle.p8_access.specs.Pins.{outa_of, dira_of, pins_at}
use Rattle.p8_pins.specs.Levels.{by, end_of}
use Rattle.p8_wave.specs.declared.variables.Selection.{Selection}
use Rattle.p8_wave.specs.declared.variables.Variable.{Variable}
use Rattle.p8_wave.specs.declared.variables.Variable.TheVariants.{Pin, Outa, Dira, State, Lock, Taken}
use Rattle.p8_wave.specs.Variables.{variables}

-- whether a cog's own halt was the last thing that stopped it
abbrev pub halts_by : ℕ → (cog : ℕ) → Access → Option Bool
halts_by n cog (CogStop target) = if target == n then Some false else None
halts_by n cog (Halt reason) = if cog == n then Some true else None
halts_by n cog _ = None

abbrev pub is_halted : List Turn → ℕ → Bool
is_halted past n = newest (λ (turn : Turn). halts_by n turn.key.cog turn.access) false past

-- a cog's state as a number: stopped, starting, running, halted
abbrev pub state_number : CogState → (halted : Bool) → ℕ
state_number Stopped halted = if halted then 3 else 0
state_number (Starting since origin) halted = 1
state_number (Running origin) halted = 2

abbrev pub bit_of : Bool → ℕ
bit_of set = if set then 1 else 0

-- the value of a variable after some turns, where the script stands at a clock
abbrev pub value_of : World → List Turn → ℕ → Variable → ℕ
value_of w past clock (Pin n) = pins_at w past clock / 2 ^ n % 2
value_of w past clock (Outa n) = outa_of past n
value_of w past clock (Dira n) = dira_of past n
value_of w past clock (State n) = state_number (cog_state w past n) (is_halted past n)
value_of w past clock (Lock n) = bit_of (is_set past n)
value_of w past clock (Taken n) = bit_of (is_taken past n)

-- the value of a variable at a clock up to the end: after the turns up to that clock, with the script's
-- levels at it; a line of the script at the end or later isn't seen
unfoldable pub value_at : World → List Turn → ℕ → Variable → ℕ
value_at w past clock v = value_of w (by past clock) (min clock (end_of w past - 1)) v

-- a variable has another value than at the clock before
abbrev pub changes_at : World → List Turn → ℕ → Variable → Bool
changes_at w past clock v = not (nat_eq (value_at w past (clock - 1) v) (value_at w past clock v))

-- a variable changes at a clock after 0, up to the end
abbrev pub changes : World → List Turn → Variable → Bool
changes w past v = list_any (λ (clock : ℕ). changes_at w past clock v) (range_with_len 1 (end_of w past))

-- the variables that are shown: of those that may be, the ones that change, or all
abbrev pub shown : World → List Turn → Selection → List Variable
shown w past selection = filter (λ (v : Variable). selection.all || changes w past v) (variables selection.pins_only)

-- the clocks after 0 and before the end at which one of some variables changes
abbrev pub change_clocks : World → List Turn → List Variable → List ℕ
change_clocks w past vs = filter (λ (clock : ℕ). list_any (changes_at w past clock) vs) (range_with_len 1 (end_of w past - 1))
