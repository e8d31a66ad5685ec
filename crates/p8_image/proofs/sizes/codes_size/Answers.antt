use Rattle.std.proofs.Common.{◌≡◌, ℕ, ◌+◌, ◌∙◌, fold, rules}
use Rattle.p8_image.specs.Keeping.{kept}
use Rattle.p8_image.specs.Layout.{code_size}
use Rattle.p8_image.proofs.Keeping.{kept_total}
use Rattle.p8_image.proofs.sizes.codes_size.Goals as goal

pub returns : goal.returns
returns c =
    let sum : c.fold.result ≡ fold (λ (s : ℕ) (x : _). kept (s + code_size x)) 0 c.args.methods.now = search rules in
    sum ∙ kept_total code_size c.args.methods.now
