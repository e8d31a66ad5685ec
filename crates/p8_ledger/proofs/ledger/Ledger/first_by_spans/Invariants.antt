use Rattle.std.proofs.Common.{◌≡◌, ◌-◌, ◌<◌, ◌^◌}
use Rattle.p8_access.specs.Worlds.{World}
use Rattle.p8_ledger.specs.Coming.{WaitsFrom}
use Rattle.p8_ledger.specs.Records.{Record}
use Rattle.p8_ledger.specs.Ledgers.{Found}
use Rattle.p8_ledger.proofs.ledger.Ledger.first_by_spans.Given as goal

abbrev pub invariant-spans : goal.invariant-spans
invariant-spans l = record {
  waits : (w : World) (r : Record) → l.script ≡ w.script → Found w l.self r → WaitsFrom w r l.from;
  small : l.from < 2 ^ 61;
}

abbrev pub decreases-spans : goal.decreases-spans
decreases-spans l = 2 ^ 61 - l.from
