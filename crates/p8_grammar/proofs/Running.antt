-- Reading on over the words of a form, and a form that breaks off.
use Rattle.std.proofs.Common.{◌≡◌, List, [], ◌∷◌, Option, Some, None, Bool, true, false, refl, ap}
use Rattle.std.specs.Prelude.{IsTrue, if◌then◌else◌, ◌||◌}
use Rattle.p8_tree.specs.Expressions.{Variable}
use Rattle.p8_grammar.specs.Lexemes.{Setting, is_value, Token}
use Rattle.p8_grammar.specs.Machine.{addressing, changing, Shape, using, coloned, sized, named, dotted, element, part, trapping, trapped_element, object_dot, headed, hashed, opening, string_read, strings_read, choices_read, done, tree, target, unless, is_plain, whole_in, State, step}
use Rattle.p8_grammar.specs.Outcomes.{stopped, or_else, run}

pub run_step : (st st' : State) (t : Token) (ts : List Token) → step st t ≡ Some st' → run st (t ∷ ts) ≡ run st' ts
run_step st st' t ts h = ap (λ o. or_else o (λ x. run x ts) (stopped st (t ∷ ts))) h

pub run_stop : (st : State) (t : Token) (ts : List Token) → step st t ≡ None → run st (t ∷ ts) ≡ stopped st (t ∷ ts)
run_stop st t ts h = ap (λ o. or_else o (λ x. run x ts) (stopped st (t ∷ ts))) h

-- a form that is not whole, and goes on with its own words alone
abbrev pub is_cut : Shape → Bool
is_cut (using (addressing p)) = true
is_cut (using (changing p b)) = true
is_cut (coloned u p) = true
is_cut (sized u p z) = true
is_cut (dotted b u p n) = true
is_cut trapping = true
is_cut (trapped_element p n e) = true
is_cut (object_dot t p n i) = true
is_cut (hashed p n) = true
is_cut (opening p x) = true
is_cut (string_read p q []) = true
is_cut (string_read p q (c ∷ d ∷ t)) = true
is_cut (strings_read p es) = true
is_cut (choices_read p k x xs) = true
is_cut sh = false

pub cut_tree : (sh : Shape) → IsTrue (is_cut sh) → tree sh ≡ None
cut_tree (named b u p n) c = absurd cc
cut_tree (element p n e) c = absurd cc
cut_tree (part u v x) c = absurd cc
cut_tree (headed h) c = absurd cc
cut_tree (done e) c = absurd cc
cut_tree sh c = refl

pub whole_none : (s : Setting) (sh : Shape) → tree sh ≡ None → whole_in s sh ≡ None
whole_none s sh t = go (is_value s || is_plain sh) (target sh)
  where
    go : (b : Bool) (v : Option Variable) → (if b then tree sh else unless v (tree sh)) ≡ None
    go true v = t
    go false None = t
    go false (Some v) = refl
