use Rattle.std.proofs.Common.{◌≡◌, ◌+◌, ◌-◌, ◌*◌, min, ℕ, arith}
use Rattle.p8_report.specs.Text.{dump_line}
use Rattle.p8_report.proofs.Ranges.{flat_map_step}
use Rattle.p8_report.proofs.dump.push_range.Goals as goal

pub loop-line-preserved : goal.loop-line-preserved
loop-line-preserved c = λ w past h.
    let count : min 16 (c.args.count - 16 * c.loop-line.line) ≡ c.min.result = omega arith in
    flat_map_step (λ (i : ℕ). dump_line w past (c.args.address + 16 * i) (min 16 (c.args.count - 16 * i))) c.loop-line.line _ _ _ (c.loop-line.invariant w past h) (rw count (c.in_ok-push_dump_line.ensures w past h))
