use Rattle.std.proofs.Common.{◌≡◌, ◌∙◌, ap, sym, ℕ, ◌+◌, ◌*◌, ◌/◌, ◌^◌, Bool, if◌then◌else◌, arith}
use Rattle.p8_serial.specs.Receiving.{level_in}
use Rattle.p8_serial.proofs.Receiving.{next-bit, next-passed, bit-fits, bit-whole}
use Rattle.p8_serial.proofs.frames.receive_byte.Goals.{then-level, else-level}
use Rattle.p8_serial.proofs.frames.receive_byte.Goals as goal

pub overflow_add-byte : goal.overflow_add-byte
overflow_add-byte c = omega (arith, bit-fits (level_in c.args.pin c.args.cursor.now) c.args.bits c.args.start c.loop-i.i c.loop-i.byte c.loop-i.invariant.byte c.loop-i-test.true)

pub loop-i-preserved : goal.loop-i-preserved
loop-i-preserved c =
    let i = c.loop-i.i in let bits = c.args.bits in let start = c.args.start in
    let clock : start + c.from.result + (i + 1) * c.from-in-loop-i.result ≡ start + (i + 1) * bits + bits / 2 =
    omega (arith, c.from.ensures, ap (λ (x : ℕ). (i + 1) * x) c.from-in-loop-i.ensures) in
    let sum : c.if-level.byte ≡ c.loop-i.byte + (if c.level.result then 2 ^ i else 0) = elim c.if-level.branch [
      | then-level w ↦ w.byte-is ∙ ap (λ (x : ℕ). c.loop-i.byte + x) (bit-whole i c.loop-i-test.true) ∙ ap (λ (b : Bool). c.loop-i.byte + (if b then 2 ^ i else 0)) (sym w.if-level.true)
      | else-level w ↦ w.byte-is ∙ omega arith ∙ ap (λ (b : Bool). c.loop-i.byte + (if b then 2 ^ i else 0)) (sym w.if-level.false)
    ] in
    record {
      byte = next-bit c.args.pin bits start c.args.cursor.now c.loop-i.cursor i _ c.loop-i.byte c.if-level.byte c.level.result clock c.loop-i.invariant.byte c.loop-i.invariant.passed c.level.ensures.level sum;
      passed = next-passed c.args.pin bits start c.args.cursor.now c.loop-i.cursor i _ c.level.new.cursor clock c.loop-i.invariant.passed c.level.ensures.passed;
    }
