use Rattle.std.proofs.Common.{◌≡◌, ◌<◌}
use Rattle.p8_desk.specs.Gathering.{left_to_do, HasRode}
use Rattle.p8_desk.specs.Rules.{Hand}
use Rattle.p8_desk.specs.Seats.{pass_in}
use Rattle.p8_desk.proofs.drive.drive.Given as goal

abbrev pub invariant-loop-next : goal.invariant-loop-next
invariant-loop-next l = record {
  table : l.seat.table_id ≡ l.fn.desk.table;
  near : l.cog < 8;
  rode : (before : Hand) × HasRode l.fn.desk.world l.cog before l.seat.me l.riders l.count l.answer;
}

abbrev pub decreases-loop-next : goal.decreases-loop-next
decreases-loop-next l = left_to_do l.fn.desk.world (pass_in l.seat.me l.cog).seen l.answer
