-- One more digit.
use Rattle.std.proofs.Common.{◌<◌, ◌^◌, sym, subst, take, arith}
use Rattle.std.specs.Char.{digit_value}
use Rattle.std.proofs.lemmas.List.{length-take}
use Rattle.p8_pins.proofs.Texts.{AllDigits-at, value-small, value-fits, number-more}
use Rattle.p8_pins.proofs.line_text.number.Goals as goal

pub returns-in_err-digit : goal.returns-in_err-digit
returns-in_err-digit c =
    rw c.from_residual.ensures
    (λ all. c.in_err-digit.ensures.value
    (subst (λ byte. digit_value byte < c.args.base) (sym c.from.ensures) (AllDigits-at c.args.base c.args.digits.now c.loop-byte.byte-index all c.loop-byte-test.true)))

pub overflow_mul-value : goal.overflow_mul-value
overflow_mul-value c =
    let small : c.loop-byte.value < 2 ^ 40 =
    rw c.loop-byte.invariant.1 (value-small c.args.base (take c.loop-byte.byte-index c.args.digits.now) c.requires.base c.requires.small (omega (arith, length-take c.loop-byte.byte-index c.args.digits.now, c.requires.few)) c.loop-byte.invariant.0) in
    let fits = value-fits c.args.base c.loop-byte.value c.in_ok-digit.digit small c.requires.small (omega (arith, c.in_ok-digit.ensures.value.0, c.in_ok-digit.ensures.value.1)) in
    rw c.from-in-loop-byte.ensures (omega arith)

pub overflow_add-value : goal.overflow_add-value
overflow_add-value c =
    let small : c.loop-byte.value < 2 ^ 40 =
    rw c.loop-byte.invariant.1 (value-small c.args.base (take c.loop-byte.byte-index c.args.digits.now) c.requires.base c.requires.small (omega (arith, length-take c.loop-byte.byte-index c.args.digits.now, c.requires.few)) c.loop-byte.invariant.0) in
    let fits = value-fits c.args.base c.loop-byte.value c.in_ok-digit.digit small c.requires.small (omega (arith, c.in_ok-digit.ensures.value.0, c.in_ok-digit.ensures.value.1)) in
    rw (c.from-in-loop-byte.ensures, c.from-in-loop-byte-2.ensures) (omega arith)

pub loop-byte-preserved : goal.loop-byte-preserved
loop-byte-preserved c =
    rw c.from-in-loop-byte-2.ensures
    (number-more c.args.base c.args.digits.now c.loop-byte.byte-index c.loop-byte.value c.from-in-loop-byte.result c.in_ok-digit.digit c.from.result c.loop-byte-test.true c.loop-byte.invariant c.from.ensures c.in_ok-digit.ensures.value c.from-in-loop-byte.ensures)
