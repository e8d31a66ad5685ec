use Rattle.std.proofs.Common.{◌∷◌, ◌+◌, ℕ, arith}
use Rattle.p8_access.specs.Hub.{byte_at}
use Rattle.p8_instr.specs.Numerals.{hex}
use Rattle.p8_report.proofs.Ranges.{flat_map_step, in_ram}
use Rattle.p8_report.proofs.dump.push_bytes.Goals as goal

pub loop-i-preserved : goal.loop-i-preserved
loop-i-preserved c = λ w past h.
    let byte = in_ram (c.args.address + c.loop-i.i) c.byte.result (byte_at w past (c.args.address + c.loop-i.i)) (omega arith) (c.byte.ensures w past h) in
    flat_map_step (λ (i : ℕ). 32 ∷ hex 2 (byte_at w past (c.args.address + i))) c.loop-i.i _ _ _ (c.loop-i.invariant w past h) (rw (← byte) c.in_ok-push_byte.ensures)
