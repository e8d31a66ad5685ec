use Rattle.std.proofs.Common.{◌≡◌, ◌++◌, ◌∷◌, ℕ, drop}
use Rattle.std.specs.List.{flat_map}
use Rattle.p8_instr.specs.Numerals.{hex}
use Rattle.p8_image.proofs.code.push_bytes.Given as goal

abbrev pub invariant-loop-byte : goal.invariant-loop-byte
invariant-loop-byte l =
    l.out.items ++ flat_map (λ (byte : ℕ). 32 ∷ hex 2 byte) (drop l.byte-index l.bytes) ≡ l.initial.out.items ++ flat_map (λ (byte : ℕ). 32 ∷ hex 2 byte) l.bytes
