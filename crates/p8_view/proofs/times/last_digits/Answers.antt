use Rattle.std.proofs.Common.{◌≡◌, ◌∙◌, ◌+◌, ◌/◌, ◌%◌, ◌∷◌, [], arith}
use Rattle.p8_view.proofs.times.last_digits.Goals as goal

pub returns : goal.returns
returns c =
    let n = c.args.number in
    let hundreds : 48 + n % 1000 / 100 % 10 ≡ 48 + n / 100 % 10 = omega arith in
    let tens : 48 + n % 1000 / 10 % 10 ≡ 48 + n / 10 % 10 = omega arith in
    let ones : 48 + n % 1000 % 10 ≡ 48 + n % 10 = omega arith in
    c.three_digits.ensures ∙ (λ i. hundreds i ∷ tens i ∷ ones i ∷ [])
