-- Walks over pieces, and frames that are ended or kept.
use Rattle.std.proofs.Common.{◌≡◌, ℕ, ◌<◌, ◌≤◌, List, [], ◌∷◌, ◌++◌, Option, Some, None, Bool, true, false, refl, ap, ◌∙◌, le-leb}
use Rattle.std.specs.Prelude.{option_and_then, IsTrue, nat_le, ◌&&◌, if◌then◌else◌}
use Rattle.std.proofs.lemmas.Bool.{lt-leb, leb-true}
use Rattle.p8_tree.specs.Expressions.{Tree}
use Rattle.p8_grammar.specs.Lexemes.{Token}
use Rattle.p8_grammar.specs.Grammar.{is_boolean}
use Rattle.p8_grammar.specs.Machine.{Next, only_if, Frame, level_bound, level_bound_of, wrap, reduce, State, step, walk}

-- a walk over two pieces
pub walk_append : (st : State) (ts us : List Token) → walk st (ts ++ us) ≡ option_and_then (λ x. walk x us) (walk st ts)
walk_append st [] us = refl
walk_append st (t ∷ ts) us = go (λ x. walk_append x ts us) (step st t)
  where
    go : ((x : State) → walk x (ts ++ us) ≡ option_and_then (λ y. walk y us) (walk x ts)) → (o : Option State) → option_and_then (λ x. walk x (ts ++ us)) o ≡ option_and_then (λ x. walk x us) (option_and_then (λ x. walk x ts) o)
    go ih None = refl
    go ih (Some x) = ih x

pub goes_on : (st st' : State) (ts us : List Token) → walk st ts ≡ Some st' → walk st (ts ++ us) ≡ walk st' us
goes_on st st' ts us e = walk_append st ts us ∙ ap (λ o. option_and_then (λ x. walk x us) o) e

pub one_step : (st st' : State) (t : Token) → step st t ≡ Some st' → walk st (t ∷ []) ≡ Some st'
one_step st st' t e = ap (λ o. option_and_then (λ x. walk x []) o) e

pub steps_on : (st st' : State) (t : Token) (ts : List Token) → step st t ≡ Some st' → walk st (t ∷ ts) ≡ walk st' ts
steps_on st st' t ts e = ap (λ o. option_and_then (λ x. walk x ts) o) e

-- nothing is ended where the last frame waits for a looser operator
pub kept : (m : ℕ) (e : Tree) (k : List Frame) → m < level_bound_of k → reduce m e k ≡ (e, k)
kept m e [] lt = refl
kept m e (f ∷ k) lt = rw (lt-leb (level_bound f) m lt) refl

pub wraps : (m : ℕ) (e : Tree) (f : Frame) (k : List Frame) → level_bound f ≤ m → reduce m e (f ∷ k) ≡ reduce m (wrap f e) k
wraps m e f k le = rw (le-leb (level_bound f) m le) refl

-- what a test lets through
pub only : (b : Bool) (n : Next) → IsTrue b → only_if b n ≡ Some n
only true n h = refl
only false n h = absurd cc

pub passed : {A : Type 0} (b : Bool) (o o' : A) → IsTrue b → (if b then o else o') ≡ o
passed true o o' h = refl
passed false o o' h = absurd cc

pub both : (a b : Bool) → IsTrue a → IsTrue b → IsTrue (a && b)
both true b x y = y
both false b x y = absurd cc

pub first_true : (a b : Bool) → IsTrue (a && b) → IsTrue a
first_true true b h = refl
first_true false b h = absurd cc

pub second_true : (a b : Bool) → IsTrue (a && b) → IsTrue b
second_true true b h = h
second_true false b h = absurd cc

-- the ranks of AND and OR
pub boolean_most : (r : ℕ) → IsTrue (is_boolean r) → r ≤ 10
boolean_most r h = leb-true r 10 (second_true (nat_le 9 r) (nat_le r 10) h)
