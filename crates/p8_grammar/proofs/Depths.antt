-- What frames do to the height of what comes next.
use Rattle.std.proofs.Common.{◌≡◌, ℕ, ◌+◌, max, List, [], ◌∷◌, ◌∙◌, arith}
use Rattle.p8_grammar.specs.Machine.{Frame}
use Rattle.p8_grammar.specs.Least.{need, high_in_frame, adds_frame, depth, base}

pub need_is : (k : List Frame) (h : ℕ) → need h k ≡ max (base k) (h + depth k)
need_is [] h = omega arith
need_is (f ∷ k) h = need_is k (adds_frame f + max (high_in_frame f) h) ∙ omega arith
