use Rattle.std.proofs.Common.{◌≡◌, ℕ, drop, ap, sym, subst, ◌∙◌, arith}
use Rattle.std.specs.Option.{option_or}
use Rattle.p8_fold.specs.ConstantEntries.{at_bytes}
use Rattle.p8_fold.proofs.Bytes.{at_bytes-empty}
use Rattle.p8_gen.specs.Files.{named_offset, first_offset}
use Rattle.p8_gen.proofs.Tabled.{label_entered, labels_more, no_labels}
use Rattle.p8_gen.proofs.labels.Labels.of.Goals as goal

pub loop-at-init : goal.loop-at-init
loop-at-init c = (omega arith, λ n. at_bytes-empty c.new-offsets.result n c.new-offsets.ensures.empty ∙ sym (no_labels c.args.labels.now n))

pub loop-at-preserved : goal.loop-at-preserved
loop-at-preserved c = (
  omega arith,
  λ n.
      let x = c.index-labels-at.result in
      label_entered x (λ n. at_bytes n c.loop-at.offsets) (λ n. at_bytes n c.enter.new.offsets) c.in_ok-enter.ensures.entered c.in_ok-enter.ensures.others n
      ∙ ap (option_or (named_offset x n)) (c.loop-at.invariant.1 n) ∙ labels_more c.args.labels.now c.loop-at.at x n c.loop-at-test.true c.loop-at.invariant.0 c.index-labels-at.is,
)

pub returns : goal.returns
returns c = λ n. let none : c.loop-at.at ≡ 0 = omega arith in subst (λ (k : ℕ). at_bytes n c.loop-at.offsets ≡ first_offset (drop k c.args.labels.now) n) none (c.loop-at.invariant.1 n)
