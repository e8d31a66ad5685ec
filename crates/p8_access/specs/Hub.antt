-- What the hub is after some turns, told by the last turn that matters (Propeller Manual v1.2, "Hub",
-- COGINIT, COGSTOP, LOCKNEW, LOCKRET, LOCKSET, LOCKCLR; what they leave open is this project's profile).
-- A past is a list of turns, the newest first.
use Rattle.std.specs.Prelude.{ℕ, ◌+◌, ◌-◌, ◌*◌, ◌/◌, ◌%◌, ◌^◌, ◌==◌, nat_lt, if◌then◌else◌, Bool, true, false, not, List, [], ◌∷◌, Option, Some}
use Rattle.std.specs.Prelude.{None, slice_index}
use Rattle.std.specs.List.{find}
use Rattle.p8_access.specs.declared.kinds.Width.{Width}
use Rattle.p8_access.specs.declared.kinds.Width.TheVariants.{Byte, Word, Long}
use Rattle.p8_access.specs.declared.kinds.Origin.{Origin}
use Rattle.p8_access.specs.declared.kinds.Origin.TheVariants.{Pasm}
use Rattle.p8_access.specs.declared.kinds.Access.{Access}
use Rattle.p8_access.specs.declared.kinds.Access.TheVariants.{Begin, Load, Write, CogInit, CogStop, LockNew, LockRet, LockSet, LockClr, Halt}
use Rattle.p8_access.specs.declared.kinds.Answer.{Answer}
use Rattle.p8_access.specs.declared.kinds.Answer.TheVariants.{Number}
use Rattle.p8_access.specs.declared.order.Turn.{Turn}
use Rattle.p8_access.specs.Proper.{bytes_in}
use Rattle.p8_access.specs.declared.states.CogState.{CogState}
use Rattle.p8_access.specs.declared.states.CogState.TheVariants.{Stopped, Starting, Running}
use Rattle.p8_access.specs.Worlds.{World}

abbrev pub or_else : {A : Type 0} → Option A → A → A
or_else (Some x) y = x
or_else None y = y

-- what the newest turn tells that knows anything, or else this
abbrev pub newest : {A : Type 0} → (Turn → Option A) → A → List Turn → A
newest knows first [] = first
newest knows first (turn ∷ past) = or_else (knows turn) (newest knows first past)

-- the eight cogs
abbrev pub cogs : List ℕ
cogs = 0 ∷ 1 ∷ 2 ∷ 3 ∷ 4 ∷ 5 ∷ 6 ∷ 7 ∷ []

-- the eight locks
abbrev pub locks : List ℕ
locks = 0 ∷ 1 ∷ 2 ∷ 3 ∷ 4 ∷ 5 ∷ 6 ∷ 7 ∷ []

-- memory: the byte that an access puts at an address, if it covers it
abbrev pub put_by : Access → ℕ → Option ℕ
put_by (Write width address value) a =
    if nat_lt a address then None
    else (if nat_lt a (address + bytes_in width) then Some (value / 256 ^ (a - address) % 256) else None)
put_by _ a = None

-- the byte at an address below $8000: what the last write of it put there, else the boot's
abbrev pub byte_at : World → List Turn → ℕ → ℕ
byte_at w past a = newest (λ (turn : Turn). put_by turn.access a) (slice_index w.memory a) past

-- the number in the bytes from an address on, the lowest first
abbrev pub value_at : World → List Turn → Width → ℕ → ℕ
value_at w past Byte a = byte_at w past a
value_at w past Word a = byte_at w past a + 256 * byte_at w past (a + 1)
value_at w past Long a =
    byte_at w past a + 256 * byte_at w past (a + 1) + 256 ^ 2 * byte_at w past (a + 2) + 256 ^ 3 * byte_at w past (a + 3)

-- what a read gives: 0 at $8000 and above
abbrev pub read_at : World → List Turn → Width → ℕ → ℕ
read_at w past width a = if nat_lt a 32768 then value_at w past width a else 0

-- locks: an answer names this number
abbrev pub is_number : ℕ → Answer → Bool
is_number n (Number (Some m)) = m == n
is_number n _ = false

-- taken by the LockNew that answered it, given back by its LockRet
abbrev pub takes_by : ℕ → Access → Answer → Option Bool
takes_by lock LockNew answer = if is_number lock answer then Some true else None
takes_by lock (LockRet l) answer = if l == lock then Some false else None
takes_by lock _ answer = None

-- set by LockSet, cleared by LockClr
abbrev pub sets_by : ℕ → Access → Option Bool
sets_by lock (LockSet l) = if l == lock then Some true else None
sets_by lock (LockClr l) = if l == lock then Some false else None
sets_by lock _ = None

abbrev pub is_taken : List Turn → ℕ → Bool
is_taken past lock = newest (λ (turn : Turn). takes_by lock turn.access turn.answer) false past

abbrev pub is_set : List Turn → ℕ → Bool
is_set past lock = newest (λ (turn : Turn). sets_by lock turn.access) false past

-- cogs: what a turn does to one
pub data Change : Type 0 where
  Starts : (since : ℕ) (origin : Origin) → Change
  Runs : Change
  Stops : Change

-- a CogInit that answered it starts it, its own Begin or Load runs it, a CogStop of it or its own
-- Halt stops it
abbrev pub change_by : ℕ → (clock cog : ℕ) → Access → Answer → Option Change
change_by n clock cog (CogInit target origin) answer = if is_number n answer then Some (Starts clock origin) else None
change_by n clock cog Begin answer = if cog == n then Some Runs else None
change_by n clock cog Load answer = if cog == n then Some Runs else None
change_by n clock cog (CogStop target) answer = if target == n then Some Stops else None
change_by n clock cog (Halt reason) answer = if cog == n then Some Stops else None
change_by n clock cog _ answer = None

abbrev pub change_of : ℕ → Turn → Option Change
change_of n turn = change_by n turn.key.clock turn.key.cog turn.access turn.answer

-- what a cog was started with; a stopped one has nothing
abbrev pub origin_of : CogState → Origin
origin_of Stopped = Pasm 0 0
origin_of (Starting since origin) = origin
origin_of (Running origin) = origin

abbrev pub changed : CogState → Option Change → CogState
changed state None = state
changed state (Some (Starts since origin)) = Starting since origin
changed state (Some Runs) = Running (origin_of state)
changed state (Some Stops) = Stopped

-- at first cog 0 is started at clock 0 with the boot's origin, and the others are stopped
abbrev pub cog_state : World → List Turn → ℕ → CogState
cog_state w [] n = if n == 0 then Starting 0 w.first else Stopped
cog_state w (turn ∷ past) n = changed (cog_state w past n) (change_of n turn)

abbrev pub is_stopped : CogState → Bool
is_stopped Stopped = true
is_stopped _ = false

-- the lowest cog that is stopped
abbrev pub stopped_cog : World → List Turn → Option ℕ
stopped_cog w past = find (λ (n : ℕ). is_stopped (cog_state w past n)) cogs

-- the lowest lock that isn't taken
abbrev pub free_lock : List Turn → Option ℕ
free_lock past = find (λ (lock : ℕ). not (is_taken past lock)) locks
