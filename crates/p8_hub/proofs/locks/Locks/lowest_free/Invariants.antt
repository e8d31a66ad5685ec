use Rattle.std.proofs.Common.{◌≡◌, drop, not}
use Rattle.std.specs.List.{position_from}
use Rattle.p8_hub.proofs.locks.Locks.lowest_free.Given as goal

abbrev pub invariant-loop-lock : goal.invariant-loop-lock
invariant-loop-lock l =
    position_from not 0 l.self.taken ≡ position_from not l.lock (drop l.lock l.self.taken)
