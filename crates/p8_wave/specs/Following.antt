-- internal
-- How what the code keeps follows a history.
use Rattle.std.specs.Prelude.{ℕ, ◌/◌, ◌%◌, ◌^◌, ◌≡◌, nat_eq, not, if◌then◌else◌, Bool, false, List, map, slice_index, slice_index_or}
use Rattle.p8_access.specs.declared.order.Turn.{Turn}
use Rattle.p8_access.specs.declared.states.CogState.{CogState}
use Rattle.p8_access.specs.declared.states.CogState.TheVariants.{Stopped, Starting, Running}
use Rattle.p8_access.specs.Worlds.{World}
use Rattle.p8_access.specs.Hub.{cogs, locks, cog_state, is_set, is_taken}
use Rattle.p8_access.specs.Pins.{outa_of, dira_of}
use Rattle.p8_wave.specs.declared.signals.Phase.{Phase}
use Rattle.p8_wave.specs.declared.signals.Phase.TheVariants as phase
use Rattle.p8_wave.specs.declared.signals.Signals.{Signals}
use Rattle.p8_wave.specs.declared.snapshot.Snapshot.{Snapshot}
use Rattle.p8_wave.specs.declared.variables.Variable.{Variable}
use Rattle.p8_wave.specs.declared.variables.Variable.TheVariants.{Pin, Outa, Dira, State, Lock, Taken}
use Rattle.p8_wave.specs.Values.{is_halted, bit_of}

-- the number of a phase
abbrev pub phase_number : Phase → ℕ
phase_number phase.Stopped = 0
phase_number phase.Starting = 1
phase_number phase.Running = 2
phase_number phase.Halted = 3

abbrev pub phase_of : CogState → (halted : Bool) → Phase
phase_of Stopped halted = if halted then phase.Halted else phase.Stopped
phase_of (Starting since origin) halted = phase.Starting
phase_of (Running origin) halted = phase.Running

-- these are the signals after a past
pub record AreSignals (w : World) (past : List Turn) (s : Signals) : Type 0 where
  pub phases : s.phases ≡ map (λ (n : ℕ). phase_of (cog_state w past n) (is_halted past n)) cogs
  pub outa : s.outa ≡ map (λ (n : ℕ). outa_of past n) cogs
  pub dira : s.dira ≡ map (λ (n : ℕ). dira_of past n) cogs
  pub set : s.set ≡ map (λ (n : ℕ). is_set past n) locks
  pub taken : s.taken ≡ map (λ (n : ℕ). is_taken past n) locks

-- the value of a variable in a snapshot
abbrev pub snapshot_value : Snapshot → Variable → ℕ
snapshot_value p (Pin n) = p.pins / 2 ^ (n % 32) % 2
snapshot_value p (Outa n) = slice_index p.signals.outa (n % 8)
snapshot_value p (Dira n) = slice_index p.signals.dira (n % 8)
snapshot_value p (State n) = phase_number (slice_index_or p.signals.phases (n % 8) phase.Stopped)
snapshot_value p (Lock n) = bit_of (slice_index_or p.signals.set (n % 8) false)
snapshot_value p (Taken n) = bit_of (slice_index_or p.signals.taken (n % 8) false)

-- a variable has another value in another snapshot
abbrev pub differs : Snapshot → Snapshot → Variable → Bool
differs p q v = not (nat_eq (snapshot_value p v) (snapshot_value q v))
