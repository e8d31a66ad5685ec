use Rattle.std.proofs.Common.{◌+◌, map, drop, ap, sym, ◌∙◌, arith}
use Rattle.std.specs.Option.{option_or}
use Rattle.std.proofs.lemmas.List.{length-map}
use Rattle.p8_constants.proofs.Listed.{rest_is}
use Rattle.p8_build.specs.Numbers.{text_of, at_place, number_in}
use Rattle.p8_build.proofs.Numbering.{number_more, numbers_end}
use Rattle.p8_build.proofs.text_numbers.TextNumbers.of.Goals as goal

pub loop-string-preserved : goal.loop-string-preserved
loop-string-preserved c =
    let ss = c.args.strings.now in
    let i = c.loop-string.string-index in
    let x = c.string-item.result in
    record {
      at = λ p.
          ap (λ k. option_or (at_place p c.enter.new.places) (number_in k (map text_of (drop (i + 1) ss)) p)) c.in_ok-count.ensures
          ∙ number_more (at_place p c.loop-string.places) (at_place p c.enter.new.places) c.loop-string.count (text_of x) (map text_of (drop (i + 1) ss)) p (c.in_ok-enter.ensures p)
          ∙ ap (λ ys. option_or (at_place p c.loop-string.places) (number_in c.loop-string.count (map text_of ys) p)) (sym (rest_is ss i x c.loop-string-test.true c.string-item.is))
          ∙ c.loop-string.invariant.at p;
      count = c.in_ok-count.ensures ∙ ap (λ k. k + 1) c.loop-string.invariant.count;
    }

pub returns : goal.returns
returns c =
    let ss = c.args.strings.now in
    record {
      places = λ p. numbers_end (at_place p c.loop-string.places) c.loop-string.count ss c.loop-string.string-index p _ (omega arith) (c.loop-string.invariant.at p);
      count = omega (arith, c.loop-string.invariant.count, length-map ss text_of);
    }
