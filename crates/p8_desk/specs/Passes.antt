-- Passes and desks, as their callers see them.
use Rattle.std.specs.Prelude.{ℕ, ◌≡◌, Bool, List}
use Rattle.atomic_table.specs.Seated.{TableId}
use Rattle.p8_access.specs.Worlds.{World}
use Rattle.p8_ledger.specs.Records.{Record}

-- a desk is seen as its world, and as the table that it has
pub record DeskValue : Type 0 where
  pub world : World
  pub table : TableId

-- the steps of a pass: its own and the record that it has seen; how many of its tries took the desk, and the cogs that the
-- others found there. Lists have the newest first
pub record PassSteps : Type 0 where
  pub own : Record
  pub seen : Record
  pub won : ℕ
  pub found : List ℕ

-- a pass is seen as its cog and its steps; `over` says that a try with it has answered Over
pub record PassValue : Type 0 where
  pub world : World
  pub table : TableId
  pub cog : ℕ
  pub steps : PassSteps
  pub over : Bool

-- the desk owns a pass: its own opening made it
pub record Owns (desk : DeskValue) (pass : PassValue) : Type 0 where
  pub world : pass.world ≡ desk.world
  pub table : pass.table ≡ desk.table
