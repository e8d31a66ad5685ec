-- What the closed desk gives, as a run on one thread says it.
use Rattle.std.proofs.Common.{◌≡◌, sym, subst, List, ◌++◌, Option, reverse}
use Rattle.p8_access.specs.declared.order.Turn.{Turn}
use Rattle.p8_access.specs.Worlds.{World}
use Rattle.p8_access.specs.Histories.{Legal, Rises, Ended as HasEnded}
use Rattle.p8_access.proofs.OneHistory.{one-history, begins-ended}
use Rattle.p8_access.proofs.Rising.{rises}
use Rattle.p8_cog.specs.Lives.{asks}
use Rattle.p8_cog.specs.Laws.{one-asked, asked-first, asked-later}
use Rattle.p8_ledger.specs.declared.outcome.Ended.{Ended as EndedRun}
use Rattle.p8_desk.specs.Closing.{Closed}
use Rattle.p8_desk.specs.Passes.{DeskValue, PassValue}

module _ (w : World) (places : List (Option PassValue)) (ended : EndedRun) (closed : Closed w places ended) where
  abbrev past_of : List Turn
  past_of = reverse ended.history.turns.list

  has-ended : HasEnded asks w past_of
  has-ended = subst (HasEnded asks w) (sym closed.history) closed.ended_run

  pub only-one : (past : List Turn) → HasEnded asks w past → past ≡ past_of
  only-one past has = one-history asks w one-asked past past_of has has-ended

  pub begins-each : (past : List Turn) → Legal asks w past → (more : List Turn) × (more ++ past ≡ past_of)
  begins-each past legal = begins-ended asks w one-asked past_of past has-ended legal

  pub all-rise : Rises past_of
  all-rise = rises asks w one-asked asked-first asked-later past_of has-ended.legal

-- of the same desk, told of it by another name
pub closed-at : (here desk : DeskValue) (places : List (Option PassValue)) (ended : EndedRun) → here ≡ desk → Closed here.world places ended → Closed desk.world places ended
closed-at here desk places ended same closed = subst (λ (d : DeskValue). Closed d.world places ended) same closed
