-- What comes behind a whole operand.
use Rattle.std.proofs.Common.{◌≡◌, ℕ, zero, suc, ◌*◌, ◌<◌, ◌≤◌, List, [], ◌∷◌, Option, Some, None, Bool, true, false, refl, sym, ap, ◌∙◌, arith}
use Rattle.std.specs.Prelude.{IsTrue, if◌then◌else◌, ◌&&◌, ◌||◌, nat_lt, nat_le}
use Rattle.std.proofs.lemmas.Bool.{ltb-true, leb-true}
use Rattle.p8_tree.specs.declared.places.Place.{Place}
use Rattle.p8_tree.specs.Expressions.{Tree, Variable}
use Rattle.p8_grammar.specs.Lexemes.{Setting, is_value, Lexeme, mark, assigns, infix_word, sign, token}
use Rattle.p8_grammar.specs.Grammar.{infix_of, is_boolean}
use Rattle.p8_grammar.specs.Machine.{Shape, using, fresh, infix_frame, left_tree, tree, target, is_plain, unless, whole_in, grow, loose, Frame, level_bound_of, reduce, State, state, in_place, first_of, go_on, beyond, after, operated, operate, step, all_of, accepted, accept}
use Rattle.p8_grammar.specs.Heights.{height}
use Rattle.p8_grammar.specs.Least.{shape_least, need, least}
use Rattle.p8_grammar.specs.Growing.{ended_by}
use Rattle.p8_grammar.proofs.Walks.{second_true}
use Rattle.p8_grammar.proofs.FormsRead.{value_whole}
use Rattle.p8_grammar.proofs.Steps.{in_place_text, whole_step}
use Rattle.p8_grammar.proofs.Tall.{tree_least}

-- a word behind it that is no part of it
pub whole_after : (s : Setting) (sh : Shape) (k : List Frame) (p : Place) (x : Lexeme) (e : Tree) → tree sh ≡ Some e → grow s sh p (loose x) ≡ None → step (state s sh k) (token p x) ≡ after s sh e k p (loose x)
whole_after s sh k p x e t none =
    let y : Lexeme = loose x in
    whole_step s sh k p x e t
    ∙ ap (λ o. first_of o (go_on (grow s sh p y) s sh k p y)) (no_text y)
    ∙ ap (λ o. go_on o s sh k p y) none
    ∙ ap (λ o. beyond o s sh k p y) t
  where
    no_text : (y : Lexeme) → in_place y sh k p ≡ None
    no_text y = go (in_place y sh k p) refl
      where
        go : (o : Option State) → in_place y sh k p ≡ o → o ≡ None
        go None h = refl
        go (Some st) h = let f : tree fresh ≡ Some e = ap tree (sym ((in_place_text y sh k p st h).2)) ∙ t in absurd cc

pub infix_after : (s : Setting) (sh : Shape) (k : List Frame) (p : Place) (y : Lexeme) (e : Tree) (o : ℕ × ℕ) → infix_of y ≡ Some o → after s sh e k p y ≡ operate s (target sh) (Some o) p e k
infix_after s sh k p (infix_word r c) e o h = ap (λ o. operate s (target sh) o p e k) h
infix_after s sh k p (sign b c) e o h = ap (λ o. operate s (target sh) o p e k) h
infix_after s sh k p y e o h = absurd cc

-- at most a mark goes on
pub rest_after : (s : Setting) (sh : Shape) (k : List Frame) (p : Place) (y : Lexeme) (e : Tree) → infix_of y ≡ None → ((o : Option ℕ) → ¬ (y ≡ assigns o)) → after s sh e k p y ≡ ended_by y e k
rest_after s sh k p (mark m) e i a = refl
rest_after s sh k p (assigns o) e i a = absurd (a o refl)
rest_after s sh k p (infix_word r c) e i a = absurd cc
rest_after s sh k p (sign b c) e i a = absurd cc
rest_after s sh k p y e i a = refl

-- no operator has another rank
pub rank_zero : (s : Setting) (v : Option Variable) (c : ℕ) (p : Place) (e : Tree) (k : List Frame) → operate s v (Some (zero, c)) p e k ≡ None
rank_zero s v c p e k = refl

pub rank_above : (s : Setting) (v : Option Variable) (r c : ℕ) (p : Place) (e : Tree) (k : List Frame) → 10 ≤ r → operate s v (Some (suc r, c)) p e k ≡ None
rank_above s v r c p e k le = go (is_boolean (suc r) && nat_lt 21 (level_bound_of k)) refl ∙ plainly (is_value s && nat_lt r 10) refl
  where
    go : (b : Bool) → (is_boolean (suc r) && nat_lt 21 (level_bound_of k)) ≡ b → operated s (if b then v else None) r c p e k ≡ operated s None r c p e k
    go false h = refl
    go true h = let b : suc r ≤ 10 = leb-true (suc r) 10 (second_true (nat_le 9 (suc r)) (nat_le (suc r) 10) (first_part (is_boolean (suc r)) (nat_lt 21 (level_bound_of k)) h)) in absurd (omega (arith, b, le))
      where
        first_part : (a b : Bool) → (a && b) ≡ true → a ≡ true
        first_part true b h = refl
        first_part false b h = absurd cc

    plainly : (b : Bool) → (is_value s && nat_lt r 10) ≡ b → operated s None r c p e k ≡ None
    plainly false h = ap (λ b. if b then (let x = reduce (2 * suc r) e k in Some (state s fresh (infix_frame r c p (left_tree x.0) ∷ x.1))) else None) h
    plainly true h = let lt : r < 10 = ltb-true r 10 (second_true (is_value s) (nat_lt r 10) h) in absurd (omega (arith, lt, le))

-- an operand's height is the least
pub whole_least : (s : Setting) (sh : Shape) (k : List Frame) (e : Tree) → tree sh ≡ Some e → least (state s sh k) ≡ need (height e) k
whole_least s sh k e t = by_shape sh t ∙ ap (λ l. need l k) (tree_least sh e t)
  where
    by_shape : (sh : Shape) → tree sh ≡ Some e → least (state s sh k) ≡ need (shape_least sh) k
    by_shape (using u) t = absurd cc
    by_shape sh t = refl

-- what is whole, and what is none
pub whole_value : (s : Setting) (sh : Shape) (e : Tree) → tree sh ≡ Some e → IsTrue (is_value s) → whole_in s sh ≡ Some e
whole_value s sh e t d = value_whole s sh d ∙ t

pub whole_plain : (s : Setting) (sh : Shape) (e : Tree) → tree sh ≡ Some e → is_plain sh ≡ true → whole_in s sh ≡ Some e
whole_plain s sh e t plain = go (is_value s) ∙ t
  where
    go : (b : Bool) → (if b || is_plain sh then tree sh else unless (target sh) (tree sh)) ≡ tree sh
    go true = refl
    go false = ap (λ b. if b then tree sh else unless (target sh) (tree sh)) plain

pub no_whole : (s : Setting) (sh : Shape) (v : Variable) → is_value s ≡ false → is_plain sh ≡ false → target sh ≡ Some v → whole_in s sh ≡ None
no_whole s sh v d plain t = ap (λ b. if b || is_plain sh then tree sh else unless (target sh) (tree sh)) d ∙ ap (λ b. if b then tree sh else unless (target sh) (tree sh)) plain ∙ ap (λ o. unless o (tree sh)) t

pub accepts_all : (s : Setting) (sh : Shape) (k : List Frame) (e a : Tree) → whole_in s sh ≡ Some e → reduce 22 e k ≡ (a, []) → accept (state s sh k) ≡ Some a
accepts_all s sh k e a w r = ap (λ o. accepted o k) w ∙ ap (λ x. all_of x.0 x.1) r

pub accepts_none : (s : Setting) (sh : Shape) (k k' : List Frame) (f : Frame) (e a : Tree) → whole_in s sh ≡ Some e → reduce 22 e k ≡ (a, f ∷ k') → accept (state s sh k) ≡ None
accepts_none s sh k k' f e a w r = ap (λ o. accepted o k) w ∙ ap (λ x. all_of x.0 x.1) r
