use Rattle.std.proofs.Common.{◌≡◌, map, ◌++◌, drop}
use Rattle.p8_gen.specs.Uses.{way_of}
use Rattle.p8_stmt.specs.Rounds.{widened_from}
use Rattle.p8_stmt.proofs.widths.with_far_jumps.Given as goal

abbrev pub invariant-loop-number : goal.invariant-loop-number
invariant-loop-number l = l.more.items ++ widened_from l.widths l.number (map way_of (drop l.number l.ways)) ≡ widened_from l.widths 0 (map way_of l.ways)
