-- What a closed desk gives.
use Rattle.std.specs.Prelude.{ℕ, ◌≡◌, List, Option, Some, reverse, slice_get}
use Rattle.p8_access.specs.Worlds.{World}
use Rattle.p8_access.specs.Histories.{Ended}
use Rattle.p8_hub.specs.Standing.{IsHub}
use Rattle.p8_cog.specs.Lives.{asks}
use Rattle.p8_ledger.specs.declared.outcome.Ended.{Ended as EndedRun}
use Rattle.p8_ledger.specs.Worlds.{world_of}
use Rattle.p8_ledger.specs.Records.{Record, turns, mine, Begins}
use Rattle.p8_desk.specs.Passes.{PassValue}

-- there is one record: each pass has seen a beginning of it and made just its own steps of its cog; its turns are the
-- history, which has ended, and the hub is that after them
pub record Closed (w : World) (places : List (Option PassValue)) (ended : EndedRun) : Type 0 where
  pub r : Record
  pub each : (n : ℕ) (pass : PassValue) → slice_get places n ≡ Some (Some pass) → Begins pass.steps.seen r × (mine n r ≡ pass.steps.own)
  pub history : reverse ended.history.turns.list ≡ turns r
  pub ended_run : Ended asks w (turns r)
  pub hub : IsHub w (turns r) ended.hub
  pub world : world_of ended.history.boot w.script ended.history.limits ≡ w
