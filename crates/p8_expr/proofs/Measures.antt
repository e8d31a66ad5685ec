-- The bounds of a stack's levels.
use Rattle.std.proofs.Common.{◌≡◌, ℕ, suc, ◌+◌, ◌≤◌, max, List, [], ◌∷◌, Some, None, refl, sym, ap, ◌∙◌, subst, arith}
use Rattle.std.specs.Prelude.{min}
use Rattle.p8_tree.specs.declared.places.Place.{Place}
use Rattle.p8_tree.specs.Expressions.{Tree, node}
use Rattle.p8_grammar.specs.Grammar.{Prefix, at_object, unary, with_prefix}
use Rattle.p8_grammar.specs.Machine.{Frame, prefix_frame, infix_frame, assign_frame, inside_frame, level_bound, level_bound_of, wrap, reduce}
use Rattle.p8_grammar.specs.Heights.{height}
use Rattle.p8_grammar.proofs.Walks.{wraps}
use Rattle.p8_grammar.specs.Least.{need, high_in_frame, adds_frame, depth, base}
use Rattle.p8_grammar.proofs.Depths.{need_is}
use Rattle.p8_expr.specs.declared.stack.Level.{Level}
use Rattle.p8_expr.specs.Views.{frame_of, frames_in, IsHighLeft, IsMeasured, first_level}

pub least_is : (k : List Frame) (h high b d r : ℕ) → b ≡ min 65 (base k) → d ≡ min 65 (depth k) → high ≡ min 65 h → r ≡ max b (min (min high 65 + d) 65) → r ≡ min 65 (need h k)
least_is k h high b d r x y z w = omega (arith, need_is k h)

-- a first level, and what it keeps
pub record IsFirst (x : Level) (xs : List Level) : Type 0 where
  pub rest : List Level
  pub is : xs ≡ x ∷ rest
  pub high_is : x.high ≡ min 65 (high_in_frame (frame_of x.frame))
  pub base_is : x.below.base ≡ min 65 (base (frames_in rest))
  pub depth_is : x.below.depth ≡ min 65 (depth (frames_in rest))
  pub left_is : IsHighLeft x.frame
  pub rest_is : IsMeasured rest

pub first_is : (x : Level) (xs : List Level) → first_level xs ≡ Some x → IsMeasured xs → IsFirst x xs
first_is x [] h m = absurd cc
first_is x (y ∷ ys) h m =
    let e : y ≡ x = cc in
    let is : y ∷ ys ≡ x ∷ ys = ap (λ z. z ∷ ys) e in
    let n = subst IsMeasured is m in
    record { rest = ys; is = is; high_is = n.0; base_is = n.1; depth_is = n.2; left_is = n.3; rest_is = n.4 }

pub none_is : (xs : List Level) → first_level xs ≡ None → xs ≡ []
none_is [] h = refl
none_is (y ∷ ys) h = absurd cc

-- what a frame and those below do
pub bounds_with : (g : Frame) (k : List Frame) (high b d b' d' : ℕ) → high ≡ min 65 (high_in_frame g) → b ≡ min 65 (base k) → d ≡ min 65 (depth k) →
    d' ≡ min (d + adds_frame g) 65 → b' ≡ max b (min (high + d') 65) → (b' ≡ min 65 (base (g ∷ k))) × (d' ≡ min 65 (depth (g ∷ k)))
bounds_with g k high b d b' d' h x y z w = (omega arith, omega arith)

pub bounds_are : (x : Level) (xs : List Level) (b d : ℕ) → (f : IsFirst x xs) → d ≡ min (x.below.depth + adds_frame (frame_of x.frame)) 65 →
    b ≡ max x.below.base (min (x.high + d) 65) → (b ≡ min 65 (base (frames_in xs))) × (d ≡ min 65 (depth (frames_in xs)))
bounds_are x xs b d f u v =
    subst (λ ys. (b ≡ min 65 (base (frames_in ys))) × (d ≡ min 65 (depth (frames_in ys)))) (sym f.is)
    (bounds_with (frame_of x.frame) (frames_in f.rest) x.high x.below.base x.below.depth b d f.high_is f.base_is f.depth_is u v)

prefix_high : (o : Prefix) (p : Place) (e : Tree) → height (node p (with_prefix o e)) ≡ suc (height e)
prefix_high at_object p e = refl
prefix_high (unary r k) p e = refl

-- an operator with its operands
pub wrap_high : (f : Frame) (e : Tree) (high within out : ℕ) → level_bound f ≤ 22 → high ≡ min 65 (height e) → within ≡ min 65 (high_in_frame f) → out ≡ min 65 (max high within + 1) → out ≡ min 65 (height (wrap f e))
wrap_high (prefix_frame o p) e high within out le h w is = omega (arith, prefix_high o p e)
wrap_high (infix_frame r c p a) e high within out le h w is = omega arith
wrap_high (assign_frame o p v) e high within out le h w is = omega arith
wrap_high (inside_frame s hole) e high within out le h w is = absurd (omega arith)

-- one frame that is ended
pub reduce_pop : (m b : ℕ) (e e' : Tree) (f : Frame) (k all : List Frame) → all ≡ f ∷ k → b ≡ level_bound_of all → b ≤ m → e' ≡ wrap f e → reduce m e all ≡ reduce m e' k
reduce_pop m b e e' f k all is level_bound le wrapped =
    let same : b ≡ level_bound_of (f ∷ k) = level_bound ∙ ap level_bound_of is in
    ap (reduce m e) is ∙ wraps m e f k (omega (arith, same, le)) ∙ ap (λ e. reduce m e k) (sym wrapped)
