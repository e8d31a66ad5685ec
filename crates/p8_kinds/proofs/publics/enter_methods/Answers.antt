use Rattle.std.proofs.Common.{◌∙◌, ap, ◌+◌}
use Rattle.std.specs.Prelude.{min}
use Rattle.p8_kinds.specs.Kinds.{or_else}
use Rattle.p8_kinds.specs.Publics.{named_method, method_among}
use Rattle.p8_kinds.proofs.Methods.{methods_next}
use Rattle.std.proofs.Common.{take}
use Rattle.p8_kinds.proofs.publics.enter_methods.Goals as goal

pub loop-index-preserved : goal.loop-index-preserved
loop-index-preserved c =
    let ms = c.args.methods.now in
    let i = c.loop-index.index in
    let m = c.index-methods-index.result in (
      λ n.
          c.in_ok-enter_method.ensures.entered n ∙ ap (λ o. or_else o (named_method c.number_of.result m n)) (c.loop-index.invariant.0 n)
          ∙ ap (λ k. or_else (method_among 1 (take i ms) n) (named_method k m n)) c.number_of.ensures
          ∙ ap (λ x. or_else (method_among 1 (take i ms) n) (named_method (min (i + 1) 255) x n)) c.index-methods-index.is
          ∙ methods_next ms i m n c.loop-index-test.true,
      λ j n ne. c.in_ok-enter_method.ensures.others j n ne ∙ c.loop-index.invariant.1 j n ne,
    )
