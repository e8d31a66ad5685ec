use Rattle.std.specs.List.{range_with_len}
use Rattle.p8_wave.proofs.Together.{inside-locks}
use Rattle.p8_wave.proofs.parts.locks_part.Goals as goal

pub new-requires : goal.new-requires
new-requires c = rw (c.in_ok-push_locks.ensures, c.new-entries.ensures.items) (inside-locks (range_with_len 0 8))
