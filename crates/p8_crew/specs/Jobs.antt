-- What comes back of a job.
use Rattle.std.specs.Prelude.{ℕ, ◌≡◌, ◌⊎◌, true, List, [], ◌∷◌, ◌++◌}
use Rattle.p8_access.specs.declared.order.Turn.{Turn}
use Rattle.p8_access.specs.Worlds.{World}
use Rattle.p8_ledger.specs.Records.{turns}
use Rattle.p8_desk.specs.declared.turned.Turned.{Turned}
use Rattle.p8_desk.specs.declared.turned.Turned.TheVariants.{Done, Over}
use Rattle.p8_desk.specs.Passes.{PassSteps, PassValue}
use Rattle.p8_desk.specs.Tries.{Tried, Waited}

-- a pass that comes back of a job: it is of the same desk and cog as the one that the job had, and is over or as that was
pub record ComesBack (given back : PassValue) : Type 0 where
  pub world : back.world ≡ given.world
  pub table : back.table ≡ given.table
  pub cog : back.cog ≡ given.cog
  pub over : (back.over ≡ true) ⊎ (back ≡ given)

-- one call of `Desk::turn`: tries that make no turn, and then one with this answer
abbrev pub Calls : World → ℕ → (before after : PassSteps) → Turned → Type 0
Calls w n before after answer = (last : PassSteps) × Waited before last × Tried w n last after answer

-- such calls one after the other, each of which makes a turn; these are the turns, the newest first
pub data Makes (w : World) (n : ℕ) (given : PassSteps) : List Turn → PassSteps → Type 0 where
  no_turn : Makes w n given [] given
  one_more : {made : List Turn} {before : PassSteps} (turn : Turn) (after : PassSteps) → Makes w n given made before →
      Calls w n before after (Done turn) → Makes w n given (turn ∷ made) after

-- the pass of a job that was opened: it has made turns by such calls, and one more call has found that none comes any more.
-- So its cog's turns are those that it had, and these
pub record RanOut (w : World) (given back : PassValue) : Type 0 where
  pub over : back.over ≡ true
  pub made : List Turn
  pub before : PassSteps
  pub makes : Makes w given.cog given.steps made before
  pub ends : Calls w given.cog before back.steps Over
  pub own : turns back.steps.own ≡ made ++ turns given.steps.own
