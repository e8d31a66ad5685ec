use Rattle.std.proofs.Common.{◌≡◌, ℕ, ◌+◌, ◌∙◌, fold, rules}
use Rattle.p8_image.specs.Keeping.{kept}
use Rattle.p8_image.specs.Layout.{size_of}
use Rattle.p8_image.proofs.Keeping.{kept_total}
use Rattle.p8_image.proofs.plan.objects_size.Goals as goal

pub returns : goal.returns
returns c =
    let sum : c.fold.result ≡ fold (λ (s : ℕ) (x : _). kept (s + size_of x)) 0 c.args.objects.now = search rules in
    sum ∙ kept_total size_of c.args.objects.now
