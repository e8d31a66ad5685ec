use Rattle.std.proofs.Common.{◌∙◌, ap, arith}
use Rattle.std.specs.Prelude.{◌==◌, ◌+◌, ◌*◌, if◌then◌else◌}
use Rattle.p8_lexer.specs.Lexing.{base, digit_value}
use Rattle.p8_lexer.proofs.NumberLemmas.{value_more, value_so_far}
use Rattle.p8_lexer.proofs.number.value_of.Goals as goal

pub returns-then-value-from : goal.returns-then-value-from
returns-then-value-from c =
    let text = c.args.text.now in
    let i = c.loop-i.i in
    let more = value_more c.args.radix text c.args.from i c.loop-i.value c.value_with-value.result (omega arith) (omega arith) c.loop-i.invariant.value_is (c.value_with-value.ensures ∙ ap (λ c'. if c' == 95 then c.loop-i.value else base c.args.radix * c.loop-i.value + digit_value c') c.at.ensures) in
    omega (arith, value_so_far c.args.radix text c.args.from (i + 1) c.args.to (omega arith) (omega arith) c.requires.within, more, c.if-value-from.true, c.from.ensures)

pub loop-i-preserved : goal.loop-i-preserved
loop-i-preserved c =
    record {
      value_is = value_more c.args.radix c.args.text.now c.args.from c.loop-i.i c.loop-i.value c.value_with-value.result (omega arith) (omega arith) c.loop-i.invariant.value_is (c.value_with-value.ensures ∙ ap (λ c'. if c' == 95 then c.loop-i.value else base c.args.radix * c.loop-i.value + digit_value c') c.at.ensures);
      small = omega (arith, c.if-value-from.false, c.from.ensures);
    }
