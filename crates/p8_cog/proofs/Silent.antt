-- What an instruction of the hub that writes nothing leaves doesn't depend on its answer.
use Rattle.std.proofs.Common.{◌≡◌, ℕ, ◌+◌, Bool, false, None, sym, ◌∙◌, ap, if◌then◌else◌}
use Rattle.std.specs.Prelude.{slice_index, slice_set}
use Rattle.p8_instr.specs.Instruction.{writes_result, writes_c, writes_z}
use Rattle.p8_alu.specs.declared.effect.Effect.{Effect}
use Rattle.p8_cog.specs.declared.state.PasmState.{PasmState}
use Rattle.p8_cog.specs.Replay.{Course, at_hand, next_of, register_access, written_by, ends_after}

-- how an instruction ends that writes its result, C and Z where these are set
abbrev ended : (result c z : Bool) (cog : ℕ) → PasmState → (clock : ℕ) → Effect → Course
ended result c z cog s clock e =
    written_by (if result then register_access (at_hand s).dest e.result else None) cog clock (record {
      registers = if result then slice_set s.registers (at_hand s).dest e.result else s.registers;
      par = s.par;
      at = next_of s;
      long = slice_index s.registers (next_of s);
      clock = clock + 1;
      c = if c then e.c else s.c;
      z = if z then e.z else s.z;
    })

nothing : (cog : ℕ) (s : PasmState) (clock : ℕ) (e : Effect) → writes_result (at_hand s) ≡ false → writes_c (at_hand s) ≡ false → writes_z (at_hand s) ≡ false → ends_after cog s e clock ≡ ended false false false cog s clock e
nothing cog s clock e result c z =
    ap (λ (b : Bool). ended b (writes_c (at_hand s)) (writes_z (at_hand s)) cog s clock e) result
    ∙ ap (λ (b : Bool). ended false b (writes_z (at_hand s)) cog s clock e) c
    ∙ ap (λ (b : Bool). ended false false b cog s clock e) z

pub same-end : (cog : ℕ) (s : PasmState) (clock : ℕ) (one other : Effect) → writes_result (at_hand s) ≡ false → writes_c (at_hand s) ≡ false → writes_z (at_hand s) ≡ false → ends_after cog s one clock ≡ ends_after cog s other clock
same-end cog s clock one other result c z = nothing cog s clock one result c z ∙ sym (nothing cog s clock other result c z)
