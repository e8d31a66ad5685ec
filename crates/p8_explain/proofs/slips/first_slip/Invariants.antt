use Rattle.std.proofs.Common.{◌≡◌, map, drop}
use Rattle.p8_explain.specs.Slips.{first_slip, slip_of}
use Rattle.p8_explain.proofs.slips.first_slip.Given as goal

abbrev pub invariant-loop-row : goal.invariant-loop-row
invariant-loop-row l = first_slip (map slip_of (drop l.row-index l.rows)) l.number l.before l.here l.behind ≡ first_slip (map slip_of l.rows) l.number l.before l.here l.behind
