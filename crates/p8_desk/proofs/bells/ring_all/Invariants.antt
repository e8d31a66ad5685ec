use Rattle.std.proofs.Common.{◌≡◌}
use Rattle.p8_desk.proofs.bells.ring_all.Given as goal

abbrev pub invariant-loop-cog : goal.invariant-loop-cog
invariant-loop-cog l = (l.seat.table_id ≡ l.fn.seat.table_id) × (l.seat.id ≡ l.fn.seat.id) × (l.seat.me ≡ l.fn.seat.me)
