-- What a call reads of a shelf for what it asks, and how it leaves the shelf (this project's profile).
use Rattle.std.specs.Prelude.{◌≡◌, ◌≤◌, List, Result, IfOk, IfErr}
use Rattle.p8_inputs.specs.declared.stop.Stop.{Stop}
use Rattle.p8_inputs.specs.Asks.{Ask, StopsAt, Stops}
use Rattle.p8_inputs.specs.Orders.{IsAllRead, IsReadSoFar, AreAllRead, AreReadSoFar}
use Rattle.p8_inputs.specs.Seen.{ShelfSeen}

-- for an ask
pub record ReadsFor {A : Type 0} (ask : Ask) (shelf : ShelfSeen) (result : Result A Stop) : Type 0 where
  -- the shelf keeps its files, and its count of faults never falls
  pub kept : shelf.files_now ≡ shelf.files
  pub later : shelf.before ≤ shelf.now
  -- where there is no value, this ask stops for that reason
  pub stopped : IfErr result (StopsAt shelf.files shelf.before shelf.now ask)
  -- where there is one, all that the ask reads was read, and in any case a beginning of that and nothing else
  pub all_read : IfOk result (λ _. IsAllRead shelf.files ask shelf.log shelf.log_now)
  pub so_far : IsReadSoFar shelf.files ask shelf.log shelf.log_now

-- and for asks, one after the other, of which the first one that stops is the reason
pub record ReadsForAll {A : Type 0} (asks : List Ask) (shelf : ShelfSeen) (result : Result A Stop) : Type 0 where
  pub kept : shelf.files_now ≡ shelf.files
  pub later : shelf.before ≤ shelf.now
  pub stopped : IfErr result (Stops shelf.files shelf.before shelf.now asks)
  pub all_read : IfOk result (λ _. AreAllRead shelf.files asks shelf.log shelf.log_now)
  pub so_far : AreReadSoFar shelf.files asks shelf.log shelf.log_now
