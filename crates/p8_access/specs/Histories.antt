-- The histories of a world: which turns may come one after the other, and when none comes any more.
-- A past is a list of turns, the newest first; what a life asks next is left open (it is `asked`).
use Rattle.std.specs.Prelude.{ℕ, ◌+◌, ◌*◌, ◌%◌, ◌^◌, ◌==◌, ◌&&◌, ◌≡◌, ◌<◌, ◌≤◌, ◌⊎◌, nat_le, if◌then◌else◌, Bool, true, false, List, [], ◌∷◌, ◌++◌}
use Rattle.std.specs.Prelude.{Option, Some, None, length}
use Rattle.p8_access.specs.declared.kinds.Origin.{Origin}
use Rattle.p8_access.specs.declared.kinds.Origin.TheVariants.{Pasm, Spin}
use Rattle.p8_access.specs.declared.kinds.Reason.TheVariants.{Rom}
use Rattle.p8_access.specs.declared.kinds.Test.{Test}
use Rattle.p8_access.specs.declared.kinds.Access.{Access}
use Rattle.p8_access.specs.declared.kinds.Access.TheVariants.{Begin, Load, Read, CogId, CogInit, LockNew, LockSet, LockClr, PinsIn, Wait, Clock, Halt}
use Rattle.p8_access.specs.declared.kinds.Answer.{Answer}
use Rattle.p8_access.specs.declared.kinds.Answer.TheVariants.{Done, Value, Number, Was}
use Rattle.p8_access.specs.declared.order.Key.{Key}
use Rattle.p8_access.specs.declared.order.Turn.{Turn}
use Rattle.p8_access.specs.Windows.{window_of, Before}
use Rattle.p8_access.specs.Lives.{Begun, PasmBegun, SpinBegun}
use Rattle.p8_access.specs.declared.states.CogState.{CogState}
use Rattle.p8_access.specs.declared.states.CogState.TheVariants.{Stopped, Starting, Running}
use Rattle.p8_access.specs.Worlds.{World}
use Rattle.p8_access.specs.Hub.{read_at, is_set, stopped_cog, free_lock, cog_state, origin_of}
use Rattle.p8_access.specs.Pins.{pins_at, Holds}

-- the answer to an access after a past
abbrev pub answer_to : World → List Turn → Key → Access → Answer
answer_to w past key (Read width address) = Value (read_at w past width address)
answer_to w past key CogId = Value key.cog
answer_to w past key (CogInit (Some target) origin) = Number (Some target)
answer_to w past key (CogInit None origin) = Number (stopped_cog w past)
answer_to w past key LockNew = Number (free_lock past)
answer_to w past key (LockSet lock) = Was (is_set past lock)
answer_to w past key (LockClr lock) = Was (is_set past lock)
answer_to w past key PinsIn = Value (pins_at w past key.clock)
answer_to w past key Clock = Value (key.clock % 2 ^ 32)
answer_to w past key _ = Done

-- the first turn of a cog that was started: a Load for PASM, where its 496 longs stand below $8000
abbrev pub first_access : Origin → Access
first_access (Pasm code par) = if nat_le (code + 4 * 496) 32768 then Load else Halt (Rom 32768)
first_access (Spin entry pbase vbase frame size) = Begin

-- a turn of this cog with which a life begins
abbrev pub is_begin : Access → Bool
is_begin Begin = true
is_begin Load = true
is_begin _ = false

abbrev pub begins_life : ℕ → Turn → Bool
begins_life n turn = (turn.key.cog == n) && is_begin turn.access

-- what a life of a cog begins with, where its first turn comes at a clock
abbrev pub begun_at : World → (n clock : ℕ) → Origin → Begun
begun_at w n clock (Pasm code par) = PasmBegun (record { code = code; par = par; cog = n; load = clock })
begun_at w n clock (Spin entry pbase vbase frame size) =
    SpinBegun (record { memory = w.memory; origin = Spin entry pbase vbase frame size; cog = n; begin = clock })

-- what the newest life of a cog began with
abbrev pub begun : World → List Turn → ℕ → Option Begun
begun w [] n = None
begun w (turn ∷ past) n =
    if begins_life n turn then Some (begun_at w n turn.key.clock (origin_of (cog_state w past n))) else begun w past n

-- the turns of that life, the oldest first
abbrev pub since_begin : List Turn → ℕ → List Turn
since_begin [] n = []
since_begin (turn ∷ past) n =
    if begins_life n turn then []
    else (if turn.key.cog == n then since_begin past n ++ turn ∷ [] else since_begin past n)

-- a key comes after all of a past whose keys rise
abbrev pub IsAfter : List Turn → Key → Type 0
IsAfter [] key = Unit {0}
IsAfter (turn ∷ past) key = Before turn.key key

-- the keys rise strictly
abbrev pub Rises : List Turn → Type 0
Rises [] = Unit {0}
Rises (turn ∷ past) = Rises past × IsAfter past turn.key

-- the clock at which a wait ends: the least at which its test holds for the pins as they stand, not
-- before its earliest clock, and with a key after the past
pub record IsWoken (w : World) (past : List Turn) (n : ℕ) (test : Test) (earliest clock : ℕ) : Type 0 where
  pub not_before : earliest ≤ clock
  pub after : IsAfter past (record { clock = clock; cog = n })
  pub holds : Holds test (pins_at w past clock) clock
  pub least : (u : ℕ) → earliest ≤ u → IsAfter past (record { clock = u; cog = n }) → Holds test (pins_at w past u) u → clock ≤ u

-- the clock of an access that is asked from an earliest clock on
abbrev pub IsDue : World → List Turn → ℕ → Access → (earliest clock : ℕ) → Type 0
IsDue w past n (Wait test) earliest clock = IsWoken w past n test earliest clock
IsDue w past n _ earliest clock = clock ≡ earliest

module _ (asked : Begun → List Turn → ℕ → Access → Type 0) (w : World) where
  -- a running cog's next access: what its life asks after its turns
  pub record IsNextRunning (past : List Turn) (n clock : ℕ) (access : Access) : Type 0 where
    pub life : Begun
    pub began : begun w past n ≡ Some life
    pub earliest : ℕ
    pub asks : asked life (since_begin past n) earliest access
    pub due : IsDue w past n access earliest clock

  abbrev pub IsNextIn : List Turn → ℕ → CogState → ℕ → Access → Type 0
  IsNextIn past n Stopped clock access = ⊥
  IsNextIn past n (Starting since origin) clock access = (clock ≡ window_of n (since + 1)) × (access ≡ first_access origin)
  IsNextIn past n (Running origin) clock access = IsNextRunning past n clock access

  -- the next access of a cog, and its clock, which is below the limit
  pub record IsNext (past : List Turn) (n clock : ℕ) (access : Access) : Type 0 where
    pub next : IsNextIn past n (cog_state w past n) clock access
    pub below : clock < w.clocks

  -- the turn that comes after a past: the next one of its cog, with the hub's answer, and no cog's
  -- next key is less
  pub record Extends (past : List Turn) (turn : Turn) : Type 0 where
    pub room : length past < w.turns
    pub next : IsNext past turn.key.cog turn.key.clock turn.access
    pub answer : turn.answer ≡ answer_to w past turn.key turn.access
    pub least : (n clock : ℕ) (access : Access) → IsNext past n clock access → Before (record { clock = clock; cog = n }) turn.key → ⊥

  -- each turn extends the ones before it
  abbrev pub Legal : List Turn → Type 0
  Legal [] = Unit {0}
  Legal (turn ∷ past) = Legal past × Extends past turn

  -- no turn comes after these: there are as many as the limit, or no cog has a next access
  abbrev pub IsOver : List Turn → Type 0
  IsOver past = (length past ≡ w.turns) ⊎ ((n clock : ℕ) (access : Access) → IsNext past n clock access → ⊥)

  -- the whole history of a world
  pub record Ended (past : List Turn) : Type 0 where
    pub legal : Legal past
    pub over : IsOver past
