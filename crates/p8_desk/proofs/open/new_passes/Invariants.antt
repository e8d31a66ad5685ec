use Rattle.std.proofs.Common.{◌≡◌, ◌+◌, ◌-◌, ◌*◌, []}
use Rattle.p8_ledger.specs.declared.start.Start.{Start}
use Rattle.p8_desk.specs.PassSets.{new_places}
use Rattle.p8_desk.specs.Rules.{first_view, with_passes, new_passes, world_in}
use Rattle.p8_desk.proofs.open.new_passes.Given as goal

abbrev pub invariant-loop-cog : goal.invariant-loop-cog
invariant-loop-cog l = record {
  table : l.seat.table_id ≡ l.fn.seat.table_id;
  seat : (start : Start) → l.fn.seat.me ≡ (first_view start, []) → l.seat.me ≡ (with_passes (first_view start) (new_passes (8 - l.cog) l.cog), []);
  left : l.stacks + 16384 * l.cog ≡ l.fn.stacks;
  items : (start : Start) → l.fn.seat.me ≡ (first_view start, []) → l.places.items ≡ new_places (world_in start) l.fn.seat.table_id l.cog;
}
