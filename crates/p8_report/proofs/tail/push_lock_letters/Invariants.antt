use Rattle.std.proofs.Common.{◌≡◌, ◌++◌, ℕ, List, map}
use Rattle.std.specs.List.{range_with_len}
use Rattle.p8_access.specs.declared.order.Turn.{Turn}
use Rattle.p8_access.specs.Worlds.{World}
use Rattle.p8_access.specs.Hub.{is_taken, is_set}
use Rattle.p8_hub.specs.Standing.{IsHub}
use Rattle.p8_report.specs.Text.{lock_glyph}
use Rattle.p8_report.proofs.tail.push_lock_letters.Given as goal

abbrev pub invariant-loop-lock : goal.invariant-loop-lock
invariant-loop-lock l = (w : World) (past : List Turn) → IsHub w past l.hub → l.out.items ≡ l.initial.out.items ++ map (λ (lock : ℕ). lock_glyph (is_taken past lock) (is_set past lock)) (range_with_len 0 l.lock)
