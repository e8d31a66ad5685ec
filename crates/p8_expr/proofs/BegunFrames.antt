-- What the frame that was begun last may become without its operand.
use Rattle.std.proofs.Common.{◌≡◌, ℕ, ◌+◌, max, min, List, ◌∷◌, Option, Some, None, Bool, false, refl, sym, ap, ◌∙◌, subst, arith}
use Rattle.std.specs.Prelude.{Box, MatchOption}
use Rattle.std.specs.declared.alloc.Global.{Global}
use Rattle.p8_tree.specs.declared.places.Place.{Place}
use Rattle.p8_tree.specs.declared.expressions.Expr.{Expr}
use Rattle.p8_tree.specs.declared.expressions.Target.{Target}
use Rattle.p8_tree.specs.Views.{variable_of}
use Rattle.p8_grammar.specs.Lexemes.{Setting}
use Rattle.p8_grammar.specs.Views.{setting_of}
use Rattle.p8_grammar.specs.declared.lexemes.Setting as setting
use Rattle.p8_grammar.specs.Machine.{Frame, infix_frame, inside_frame, left_variable, assigned}
use Rattle.p8_grammar.specs.Heights.{height_in_variable}
use Rattle.p8_grammar.specs.Least.{high_in_frame, adds_frame, depth, base, operand_least}
use Rattle.p8_expr.specs.declared.stack.Level.{Level}
use Rattle.p8_expr.specs.declared.stack.Assigned.{Assigned}
use Rattle.p8_expr.specs.declared.stack.Frame as frame
use Rattle.p8_expr.specs.declared.stack.Frame.TheVariants as frame_case
use Rattle.p8_expr.specs.declared.form.Hole as hole
use Rattle.p8_expr.specs.declared.parts.Parts.{Parts}
use Rattle.p8_expr.specs.declared.value.Value.{Value}
use Rattle.p8_expr.specs.declared.value.Value.TheVariants as value
use Rattle.p8_expr.specs.Views.{left_of, target_in, IsHigh, frame_of, frames_in, IsHighLeft, first_level, Alone, hole_at, takes_text}
use Rattle.p8_expr.proofs.Measures.{none_is, bounds_with, least_is}

-- AND or OR behind a variable may become an assignment
pub least_variable : (x : Value) (v : Target) (h : ℕ) (a : Bool) (out : ℕ) → x ≡ value.Variable v h a → out ≡ min 65 (max h 1 + 1) → IsHigh x → (r c : ℕ) (p : Place) (k : List Frame) → Alone (Some out) (infix_frame r c p (left_of x)) k
least_variable x v h a out e o high r c p k =
    subst (λ x. IsHigh x → Alone (Some out) (infix_frame r c p (left_of x)) k) (sym e)
    (λ hi. (1 + max (height_in_variable (variable_of v)) 1, omega (arith, hi, o), refl)) high

pub least_tree : (x : Value) (b : Box Expr Global) (h : ℕ) → x ≡ value.Tree b h → (r c : ℕ) (p : Place) (k : List Frame) → Alone None (infix_frame r c p (left_of x)) k
least_tree x b h e r c p k = subst (λ x. Alone None (infix_frame r c p (left_of x)) k) (sym e) refl

pub least_infix : (f : frame.Frame) (r c : ℕ) (p : Place) (a : Value) (o : Option ℕ) → f ≡ frame_case.Infix r c p a → (IsHigh a → (r c : ℕ) (p : Place) (k : List Frame) → Alone o (infix_frame r c p (left_of a)) k) → IsHighLeft f → (k : List Frame) → Alone o (frame_of f) k
least_infix f r c p a o e told high k =
    subst (λ f. IsHighLeft f → Alone o (frame_of f) k) (sym e) (λ hi. told hi r c p k) high

pub least_plain : (f : frame.Frame) → ((r c : ℕ) (p : Place) (a : Value) → f ≡ frame_case.Infix r c p a → ⊥) → (k : List Frame) → Alone None (frame_of f) k
least_plain (frame_case.Infix r c p a) x k = absurd (x r c p a refl)
least_plain f x k = refl

-- ---- of a stack

pub least_nothing : (xs : List Level) (r : ℕ) → first_level xs ≡ None → r ≡ 1 → r ≡ min 65 (operand_least (frames_in xs))
least_nothing xs r none is = subst (λ xs. r ≡ min 65 (operand_least (frames_in xs))) (sym (none_is xs none)) (omega (arith, is))

pub least_below : (x : Level) (k : List Frame) (high r : ℕ) → x.below.base ≡ min 65 (base k) → x.below.depth ≡ min 65 (depth k) → Alone (Some high) (frame_of x.frame) k → r ≡ max x.below.base (min (min high 65 + x.below.depth) 65) → r ≡ min 65 (operand_least (frame_of x.frame ∷ k))
least_below x k high r b d (n, h, is) out = least_is k n high x.below.base x.below.depth r b d h out ∙ ap (min 65) (sym is)

pub least_with : (x : Level) (k : List Frame) (b d r : ℕ) → x.high ≡ min 65 (high_in_frame (frame_of x.frame)) → x.below.base ≡ min 65 (base k) → x.below.depth ≡ min 65 (depth k) → Alone None (frame_of x.frame) k → d ≡ min (x.below.depth + adds_frame (frame_of x.frame)) 65 → b ≡ max x.below.base (min (x.high + d) 65) → r ≡ max b (min (min 1 65 + d) 65) → r ≡ min 65 (operand_least (frame_of x.frame ∷ k))
least_with x k b d r h low deep is u v out =
    let n = bounds_with (frame_of x.frame) k x.high x.below.base x.below.depth b d h low deep u v in
    least_is (frame_of x.frame ∷ k) 1 1 b d r n.0 n.1 refl out ∙ ap (min 65) (sym is)

-- ---- AND or OR with the variable before it

pub assigned_variable : (f : frame.Frame) (r c : ℕ) (p : Place) (a : Value) (v : Target) (high : ℕ) → f ≡ frame_case.Infix r c p a → (left_of a ≡ left_variable (variable_of v)) × (IsHigh a → high ≡ min 65 (height_in_variable (variable_of v))) → IsHighLeft f → (high ≡ min 65 (height_in_variable (variable_of v))) × ((q : ℕ) × (frame_of f ≡ infix_frame q c p (left_variable (variable_of v))))
assigned_variable f r c p a v high e x left = (x.1 (subst IsHighLeft e left), (r, ap frame_of e ∙ ap (infix_frame r c p) x.0))

pub assigned_tree : (f : frame.Frame) (r c : ℕ) (p : Place) (a : Value) → f ≡ frame_case.Infix r c p a → target_in a ≡ None → (s : Setting) (k : List Frame) → assigned s (frame_of f ∷ k) ≡ None
assigned_tree f r c p a e none s k = ap (λ f. assigned s (frame_of f ∷ k)) e ∙ by_value a none
  where
    by_value : (a : Value) → target_in a ≡ None → assigned s (infix_frame r c p (left_of a) ∷ k) ≡ None
    by_value (value.Variable v h b) n = absurd cc
    by_value (value.Tree b h) n = refl

pub assigned_other : (f : frame.Frame) → ((r c : ℕ) (p : Place) (a : Value) → f ≡ frame_case.Infix r c p a → ⊥) → (s : Setting) (k : List Frame) → assigned s (frame_of f ∷ k) ≡ None
assigned_other (frame_case.Infix r c p a) x s k = absurd (x r c p a refl)
assigned_other f x s k = refl

pub popped_assigned : (o : Option Assigned) (x : Level) (xs ys : List Level) → xs ≡ x ∷ ys → MatchOption o ((s : Setting) (k : List Frame) → assigned s (frame_of x.frame ∷ k) ≡ None) (λ a. (a.high ≡ min 65 (height_in_variable (variable_of a.variable))) × ((r : ℕ) × (frame_of x.frame ≡ infix_frame r a.code a.place (left_variable (variable_of a.variable))))) → MatchOption o ((s : Setting) → assigned s (frames_in xs) ≡ None) (λ a. (a.high ≡ min 65 (height_in_variable (variable_of a.variable))) × ((r : ℕ) × (frames_in xs ≡ infix_frame r a.code a.place (left_variable (variable_of a.variable)) ∷ frames_in ys)))
popped_assigned None x xs ys e told = λ s. ap (λ xs. assigned s (frames_in xs)) e ∙ told s (frames_in ys)
popped_assigned (Some a) x xs ys e (low, (r, is)) = (low, (r, ap frames_in e ∙ ap (λ f. f ∷ frames_in ys) is))

-- ---- whether a string of several characters may come

pub frame_text : (f : frame.Frame) (o : setting.Setting) (h : hole.Hole) (p : Parts) (b : Bool) → f ≡ frame_case.Inside o h p → ((s : Setting) (p : Parts) (k : List Frame) → b ≡ takes_text (inside_frame s (hole_at h p) ∷ k)) → (k : List Frame) → b ≡ takes_text (frame_of f ∷ k)
frame_text f o h p b is told k = told (setting_of o) p k ∙ ap (λ f. takes_text (frame_of f ∷ k)) (sym is)

pub no_frame_text : (f : frame.Frame) → ((o : setting.Setting) (h : hole.Hole) (p : Parts) → f ≡ frame_case.Inside o h p → ⊥) → (k : List Frame) → false ≡ takes_text (frame_of f ∷ k)
no_frame_text (frame_case.Inside o h p) n k = absurd (n o h p refl)
no_frame_text f n k = refl
