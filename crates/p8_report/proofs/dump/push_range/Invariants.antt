use Rattle.std.proofs.Common.{◌≡◌, ◌++◌, ◌+◌, ◌*◌, ◌-◌, min, ℕ, List}
use Rattle.std.specs.List.{range_with_len, flat_map}
use Rattle.p8_access.specs.declared.order.Turn.{Turn}
use Rattle.p8_access.specs.Worlds.{World}
use Rattle.p8_hub.specs.Standing.{IsHub}
use Rattle.p8_report.specs.Text.{dump_line}
use Rattle.p8_report.proofs.dump.push_range.Given as goal

abbrev pub invariant-loop-line : goal.invariant-loop-line
invariant-loop-line l = (w : World) (past : List Turn) → IsHub w past l.hub → l.out.items ≡ l.initial.out.items ++ flat_map (λ (i : ℕ). dump_line w past (l.fn.address + 16 * i) (min 16 (l.fn.count - 16 * i))) (range_with_len 0 l.line)
