-- One term more at the end of a sum.
use Rattle.std.proofs.Common.{◌≡◌, ℕ, ◌+◌, ◌%◌, ◌^◌, List, [], ◌∷◌, ◌++◌, subst, arith}
use Rattle.p8_constants.specs.Items.{Term}
use Rattle.p8_fold.specs.Meanings.{Setting}
use Rattle.p8_fold.specs.Values.{value}
use Rattle.p8_constants.specs.Constants.{Scope, IsRightFor, Adds, none, further, counted}

moved : (a w v : ℕ) → (a + (w + v) % 2 ^ 32) % 2 ^ 32 ≡ ((a + w) % 2 ^ 32 + v) % 2 ^ 32
moved a w v = omega arith

pub one_more : (c : Scope) (es : List Term) (e : Term) (s : Setting) (v : ℕ) → Adds c es v → IsRightFor c e s → Adds c (es ++ e ∷ []) ((v + counted (value s e.tree)) % 2 ^ 32)
one_more c es e s v none fits =
    let same : (counted (value s e.tree) + 0) % 2 ^ 32 ≡ (0 + counted (value s e.tree)) % 2 ^ 32 = omega arith in
    subst (λ n. Adds c (e ∷ []) n) same (further fits none)
one_more c es e s v (further {e = d} {es = ds} {s = t} {w = w} r more) fits =
    subst (λ n. Adds c (d ∷ (ds ++ e ∷ [])) n) (moved (counted (value t d.tree)) w (counted (value s e.tree))) (further r (one_more c ds e s w more fits))
