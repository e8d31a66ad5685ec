use Rattle.std.proofs.Common.{◌≡◌, ℕ, ◌<◌, slice_index, length}
use Rattle.p8_access.specs.Worlds.{World}
use Rattle.p8_ledger.specs.Coming.{WaitsFrom, IsClockIn}
use Rattle.p8_ledger.specs.Waiting.{IsSpanFrom}
use Rattle.p8_ledger.specs.Records.{Record}
use Rattle.p8_ledger.specs.Ledgers.{Found}
use Rattle.p8_ledger.proofs.ledger.Ledger.first_in.Given as goal

abbrev pub invariant-loop-cog : goal.invariant-loop-cog
invariant-loop-cog l = record {
  size : length l.clocks ≡ 8;
  each : (w : World) (r : Record) → Found w l.self r → IsSpanFrom w.script l.from l.span → WaitsFrom w r l.from → (n : ℕ) → n < l.cog → IsClockIn w r l.span.end n (slice_index l.clocks n);
}
