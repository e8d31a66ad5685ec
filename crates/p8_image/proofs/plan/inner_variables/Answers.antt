use Rattle.std.proofs.Common.{◌≡◌, ℕ, ◌+◌, ◌∙◌, fold, slice_index, rules}
use Rattle.p8_image.specs.Keeping.{kept}
use Rattle.p8_image.proofs.Keeping.{kept_total}
use Rattle.p8_image.proofs.plan.inner_variables.Goals as goal

pub returns : goal.returns
returns c =
    let sum : c.fold.result ≡ fold (λ (s : ℕ) (x : ℕ). kept (s + slice_index c.args.sizes.now x)) 0 c.args.instances.now = search rules in
    sum ∙ kept_total (slice_index c.args.sizes.now) c.args.instances.now
