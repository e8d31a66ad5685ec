use Rattle.std.proofs.Common.{◌≡◌, ◌++◌, ◌∷◌, ◌+◌, ℕ, List}
use Rattle.std.specs.List.{range_with_len, flat_map}
use Rattle.p8_access.specs.declared.order.Turn.{Turn}
use Rattle.p8_access.specs.Worlds.{World}
use Rattle.p8_access.specs.Hub.{byte_at}
use Rattle.p8_hub.specs.Standing.{IsHub}
use Rattle.p8_instr.specs.Numerals.{hex}
use Rattle.p8_report.proofs.dump.push_bytes.Given as goal

abbrev pub invariant-loop-i : goal.invariant-loop-i
invariant-loop-i l = (w : World) (past : List Turn) → IsHub w past l.hub → l.out.items ≡ l.initial.out.items ++ flat_map (λ (i : ℕ). 32 ∷ hex 2 (byte_at w past (l.fn.address + i))) (range_with_len 0 l.i)
