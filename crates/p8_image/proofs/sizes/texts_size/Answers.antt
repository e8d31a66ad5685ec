use Rattle.std.proofs.Common.{◌≡◌, ℕ, ◌+◌, ◌∙◌, fold, rules}
use Rattle.p8_image.specs.Keeping.{kept}
use Rattle.p8_image.specs.Layout.{text_size}
use Rattle.p8_image.proofs.Keeping.{kept_total}
use Rattle.p8_image.proofs.sizes.texts_size.Goals as goal

pub returns : goal.returns
returns c =
    let sum : c.fold.result ≡ fold (λ (s : ℕ) (x : _). kept (s + text_size x)) 0 c.args.texts.now = search rules in
    sum ∙ kept_total text_size c.args.texts.now
