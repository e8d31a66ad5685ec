-- What a life begins with, and what it says of its accesses.
use Rattle.std.specs.Prelude.{ℕ, ◌+◌, ◌*◌, ◌==◌, ◌≡◌, ◌<◌, ◌≤◌, ◌||◌, Bool, true, false, List, [], ◌∷◌, Option, Some, None}
use Rattle.p8_access.specs.declared.kinds.Origin.{Origin}
use Rattle.p8_access.specs.declared.kinds.Access.{Access}
use Rattle.p8_access.specs.declared.kinds.Access.TheVariants.{Begin, Load, Read, Write, CogId, CogInit, CogStop, LockNew, LockRet, LockSet, LockClr}
use Rattle.p8_access.specs.declared.kinds.Access.TheVariants.{ClkSet, PinsIn, OutSet, DirSet, Wait, Clock, Halt}
use Rattle.p8_access.specs.declared.order.Turn.{Turn}
use Rattle.p8_access.specs.declared.lives.Next.{Next}
use Rattle.p8_access.specs.declared.lives.Next.TheVariants.{At, Quiet, More}
use Rattle.p8_access.specs.Proper.{IsProper}

-- what a PASM life began with: its code's address, PAR, its cog, and the clock of its Load
pub record Loaded : Type 0 where
  pub code : ℕ
  pub par : ℕ
  pub cog : ℕ
  pub load : ℕ

-- what a Spin life began with: the boot's memory, its origin, its cog, and the clock of its Begin
pub record Entered : Type 0 where
  pub memory : List ℕ
  pub origin : Origin
  pub cog : ℕ
  pub begin : ℕ

-- what a life began with
pub data Begun : Type 0 where
  PasmBegun : (loaded : Loaded) → Begun
  SpinBegun : (entered : Entered) → Begun

-- the clock of the turn with which it began
abbrev pub first_turn_of : Begun → ℕ
first_turn_of (PasmBegun loaded) = loaded.load
first_turn_of (SpinBegun entered) = entered.begin

-- a halt, and a stop of the cog itself, are the last access of a life
abbrev pub is_last : (cog : ℕ) → Access → Bool
is_last cog (Halt reason) = true
is_last cog (CogStop target) = target == cog
is_last cog _ = false

-- whether a life in this cog is over by these turns
abbrev pub has_ended : (cog : ℕ) → List Turn → Bool
has_ended cog [] = false
has_ended cog (turn ∷ turns) = is_last cog turn.access || has_ended cog turns

-- what is said of the access that is asked next
abbrev pub Tells : (ℕ → Access → Type 0) → ℕ → Next → Type 0
Tells Asked until (At clock access) = Asked clock access × (clock < until)
Tells Asked until Quiet = (clock : ℕ) (access : Access) → Asked clock access → until ≤ clock
Tells Asked until (More bound) = (clock : ℕ) (access : Access) → Asked clock access → bound ≤ clock

-- an access that a life makes itself, and not the machine for it
abbrev pub IsMade : Access → Type 0
IsMade Begin = ⊥
IsMade Load = ⊥
IsMade (Read width address) = IsProper (Read width address) × (address < 32768)
IsMade (Write width address value) = IsProper (Write width address value)
IsMade CogId = IsProper CogId
IsMade (CogInit target origin) = IsProper (CogInit target origin)
IsMade (CogStop cog) = IsProper (CogStop cog)
IsMade LockNew = IsProper LockNew
IsMade (LockRet lock) = IsProper (LockRet lock)
IsMade (LockSet lock) = IsProper (LockSet lock)
IsMade (LockClr lock) = IsProper (LockClr lock)
IsMade (ClkSet mode) = IsProper (ClkSet mode)
IsMade PinsIn = IsProper PinsIn
IsMade (OutSet value) = IsProper (OutSet value)
IsMade (DirSet value) = IsProper (DirSet value)
IsMade (Wait test) = IsProper (Wait test)
IsMade Clock = IsProper Clock
IsMade (Halt reason) = IsProper (Halt reason)

abbrev pub IsMadeNext : Next → Type 0
IsMadeNext (At clock access) = IsMade access
IsMadeNext Quiet = Unit {0}
IsMadeNext (More bound) = Unit {0}

-- what is announced after this answer
abbrev pub announced_by : Next → Option (ℕ × Access)
announced_by (At clock access) = Some (clock, access)
announced_by Quiet = None
announced_by (More bound) = None

-- an access has its turn at its earliest clock, but a wait may have it later
abbrev pub IsOnTime : Access → ℕ → ℕ → Type 0
IsOnTime (Wait test) earliest clock = earliest ≤ clock
IsOnTime Begin earliest clock = earliest ≡ clock
IsOnTime Load earliest clock = earliest ≡ clock
IsOnTime (Read width address) earliest clock = earliest ≡ clock
IsOnTime (Write width address value) earliest clock = earliest ≡ clock
IsOnTime CogId earliest clock = earliest ≡ clock
IsOnTime (CogInit target origin) earliest clock = earliest ≡ clock
IsOnTime (CogStop cog) earliest clock = earliest ≡ clock
IsOnTime LockNew earliest clock = earliest ≡ clock
IsOnTime (LockRet lock) earliest clock = earliest ≡ clock
IsOnTime (LockSet lock) earliest clock = earliest ≡ clock
IsOnTime (LockClr lock) earliest clock = earliest ≡ clock
IsOnTime (ClkSet mode) earliest clock = earliest ≡ clock
IsOnTime PinsIn earliest clock = earliest ≡ clock
IsOnTime (OutSet value) earliest clock = earliest ≡ clock
IsOnTime (DirSet value) earliest clock = earliest ≡ clock
IsOnTime Clock earliest clock = earliest ≡ clock
IsOnTime (Halt reason) earliest clock = earliest ≡ clock

-- a turn of an access that was asked from a clock on
abbrev pub IsTurnAt : ℕ → Access → Turn → Type 0
IsTurnAt earliest access turn = (turn.access ≡ access) × IsOnTime access earliest turn.key.clock

-- a turn of the access that was announced
abbrev pub IsAnnounced : Option (ℕ × Access) → Turn → Type 0
IsAnnounced None turn = ⊥
IsAnnounced (Some asked) turn = IsTurnAt asked.0 asked.1 turn

-- what was done in a call, and the clocks that it took: More comes only where the whole budget was
-- done, and its bound is the clock that was reached by that
abbrev pub Spends : (place_before place_after reached_before reached_after pace until budget : ℕ) → Next → Type 0
Spends place_before place_after reached_before reached_after pace until budget (At clock access) =
    (reached_before ≤ reached_after) × (reached_after ≤ clock) × (clock < until)
Spends place_before place_after reached_before reached_after pace until budget Quiet = reached_before ≤ reached_after
Spends place_before place_after reached_before reached_after pace until budget (More bound) =
    (place_after ≡ place_before + budget) × (reached_before + pace * budget ≤ bound) × (bound ≡ reached_after) × (bound < until)

-- nothing whole is left to do. `Begins n clock` says that so many instructions or bytecodes are done whole
-- and that the next one begins at that clock: none beyond this place before the access, none beyond it
-- below `until`, and after More the next one begins at the bound.
abbrev pub IsThorough : (Begins : ℕ → ℕ → Type 0) → (place until : ℕ) → Next → Type 0
IsThorough Begins place until (At clock access) = (n begin : ℕ) → Begins n begin → n ≤ place
IsThorough Begins place until Quiet = (n begin : ℕ) → Begins n begin → place < n → until ≤ begin
IsThorough Begins place until (More bound) = Begins place bound

-- an access that is told comes within so many clocks
abbrev pub IsNear : (most reached : ℕ) → Next → Type 0
IsNear most reached (At clock access) = clock ≤ reached + most
IsNear most reached Quiet = Unit {0}
IsNear most reached (More bound) = Unit {0}

-- what is told is no further than this clock: an access comes up to it, and below `until` none comes only where
-- `until` isn't after it
abbrev pub IsWithin : (limit until : ℕ) → Next → Type 0
IsWithin limit until (At clock access) = clock ≤ limit
IsWithin limit until Quiet = until ≤ limit
IsWithin limit until (More bound) = Unit {0}
