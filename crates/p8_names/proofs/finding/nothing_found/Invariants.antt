use Rattle.std.proofs.Common.{◌≡◌, length}
use Rattle.p8_names.proofs.finding.nothing_found.Given as goal

abbrev pub invariant-loop : goal.invariant-loop
invariant-loop l = (length l.found.children.items ≡ l.counter) × (length l.found.seen.items ≡ l.counter)
