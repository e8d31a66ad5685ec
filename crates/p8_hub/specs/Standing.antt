-- What a hub keeps, and which history it stands for. A past is a list of turns, the newest first.
use Rattle.std.specs.Prelude.{◌≡◌, ◌<◌, ℕ, Bool, List, map, slice_index}
use Rattle.p8_access.specs.declared.order.Turn.{Turn}
use Rattle.p8_access.specs.declared.states.CogState.{CogState}
use Rattle.p8_access.specs.Worlds.{World}
use Rattle.p8_access.specs.Hub.{cogs, locks, byte_at, cog_state, is_taken, is_set}
use Rattle.p8_access.specs.Pins.{outa_of, dira_of}

-- the 32,768 bytes of memory; each cog's state, OUTA and DIRA; each lock's two facts
pub record HubValue : Type 0 where
  pub bytes : List ℕ
  pub states : List CogState
  pub outa : List ℕ
  pub dira : List ℕ
  pub taken : List Bool
  pub set : List Bool

-- the hub stands for this history of this world: it keeps what the last turns that matter tell
pub record IsHub (w : World) (past : List Turn) (hub : HubValue) : Type 0 where
  pub bytes : (a : ℕ) → a < 32768 → slice_index hub.bytes a ≡ byte_at w past a
  pub states : hub.states ≡ map (λ (n : ℕ). cog_state w past n) cogs
  pub outa : hub.outa ≡ map (λ (n : ℕ). outa_of past n) cogs
  pub dira : hub.dira ≡ map (λ (n : ℕ). dira_of past n) cogs
  pub taken : hub.taken ≡ map (λ (lock : ℕ). is_taken past lock) locks
  pub set : hub.set ≡ map (λ (lock : ℕ). is_set past lock) locks
