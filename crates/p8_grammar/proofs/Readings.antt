-- What comes of reading on, and the laws on fronts.
use Rattle.std.proofs.Common.{◌≡◌, ℕ, suc, ◌+◌, ◌<◌, ◌≤◌, length, take, drop, List, [], ◌∷◌, ◌++◌, Option, Some, None, Bool, true, false, refl, sym, ap, ◌∙◌, subst, arith, append_assoc, append-nil}
use Rattle.std.specs.Prelude.{option_and_then, nat_lt, ◌-◌, ◌↔◌}
use Rattle.p8_tree.specs.Expressions.{Tree}
use Rattle.p8_grammar.specs.Lexemes.{Setting, Token}
use Rattle.p8_grammar.specs.Grammar.{IsExpression, IsFront, IsLongestFront}
use Rattle.p8_grammar.specs.Machine.{State, step, walk, accept, start}
use Rattle.std.proofs.Common.{take-add}
use Rattle.std.proofs.lemmas.Bool.{ltb-true, ltb-false}
use Rattle.std.proofs.lemmas.List.{length-append}
use Rattle.p8_grammar.specs.Heights.{height, IsTooHigh}
use Rattle.p8_grammar.specs.Least.{least}
use Rattle.p8_grammar.specs.Outcomes.{outcome, stopped, or_else, run, Means}
use Rattle.p8_grammar.proofs.Walks.{goes_on, steps_on}
use Rattle.p8_grammar.proofs.Complete.{complete}
use Rattle.p8_grammar.proofs.Sound.{sound}
use Rattle.p8_grammar.proofs.Tall.{walk_least, accept_least, too_high}
use Rattle.p8_grammar.proofs.Live.{is_front, not_too_high, dead}

-- what is read as far as it goes
pub record Reached (st : State) (ts : List Token) (o : Option Tree) (l : ℕ) (left : List Token) : Type 0 where
  pub read : List Token
  pub last : State
  pub is : ts ≡ read ++ left
  pub walked : walk st read ≡ Some last
  pub tree : o ≡ accept last
  pub low : l ≡ least last
  pub stops : (t : Token) (us : List Token) → left ≡ t ∷ us → step last t ≡ None

pub reached : (st : State) (ts : List Token) (o : Option Tree) (l : ℕ) (left : List Token) → run st ts ≡ outcome o l left → Reached st ts o l left
reached st [] o l left h = record { read = []; last = st; is = cc; walked = refl; tree = cc; low = cc; stops = λ t us e. absurd cc }
reached st (t ∷ ts) o l left h = go (λ x g. reached x ts o l left g) (step st t) refl h
  where
    go : ((x : State) → run x ts ≡ outcome o l left → Reached x ts o l left) → (n : Option State) → step st t ≡ n → or_else n (λ st'. run st' ts) (stopped st (t ∷ ts)) ≡ outcome o l left → Reached st (t ∷ ts) o l left
    go ih None e h = record { read = []; last = st; is = cc; walked = refl; tree = cc; low = cc; stops = λ u us f. (let same : t ≡ u = cc in ap (step st) (sym same) ∙ e) }
    go ih (Some x) e h = let r = ih x h in record { read = t ∷ r.read; last = r.last; is = ap (λ l. t ∷ l) r.is; walked = steps_on st x t r.read e ∙ r.walked; tree = r.tree; low = r.low; stops = r.stops }

-- what is left is no lower
pub least_grows : (st : State) (ts : List Token) (o : Option Tree) (l : ℕ) (left : List Token) → run st ts ≡ outcome o l left → least st ≤ l
least_grows st ts o l left h = let r = reached st ts o l left h in omega (arith, walk_least r.read st r.last r.walked, r.low)

drops : {A : Type 0} (xs ys : List A) → drop (length xs) (xs ++ ys) ≡ ys
drops [] ys = refl
drops (x ∷ xs) ys = drops xs ys

takes_first : {A : Type 0} (xs ys : List A) → take (length xs) (xs ++ ys) ≡ xs
takes_first [] ys = refl
takes_first (x ∷ xs) ys = ap (λ l. x ∷ l) (takes_first xs ys)

takes_next : {A : Type 0} (xs : List A) (y : A) (ys : List A) → take (suc (length xs)) (xs ++ y ∷ ys) ≡ xs ++ y ∷ []
takes_next [] y ys = refl
takes_next (x ∷ xs) y ys = ap (λ l. x ∷ l) (takes_next xs y ys)

takes_one_more : {A : Type 0} (xs : List A) (y : A) (ys : List A) → take (length xs + 1) (xs ++ y ∷ ys) ≡ xs ++ y ∷ []
takes_one_more xs y ys = let e : length xs + 1 ≡ suc (length xs) = omega arith in ap (λ k. take k (xs ++ y ∷ ys)) e ∙ takes_next xs y ys

-- nothing begins an expression with a token more
none_more : (s : Setting) (ts : List Token) (t : Token) (st : State) → walk (start s) ts ≡ Some st → step st t ≡ None → ¬ IsFront s (ts ++ t ∷ [])
none_more s ts t st h e = dead s (ts ++ t ∷ []) (goes_on (start s) st ts (t ∷ []) h ∙ ap (λ o. option_and_then (λ x. walk x []) o) e)

-- what comes of reading from the beginning
pub means : (s : Setting) (ts : List Token) (o : Option Tree) (l : ℕ) (left : List Token) → run (start s) ts ≡ outcome o l left → Means s ts o l left
means s ts o l left h = record {
  fewer = omega (arith, long);
  rest = sym (drops r.read left) ∙ (λ i. drop (sym n i) (sym r.is i));
  longest = record {
    within = omega arith;
    front = subst (IsFront s) (sym taken) (is_front s r.read r.last r.walked);
    stops = λ lt f. more left refl lt f;
  };
  tree = λ e. (λ is. subst (IsExpression s e) (sym taken) (sound s r.read r.last e r.walked (sym r.tree ∙ is)), λ x. accepted_is e (subst (IsExpression s e) taken x));
  high = λ m. (λ high. lower m (subst (IsTooHigh s m) taken high), λ lt. subst (IsTooHigh s m) (sym taken) (too_high s m r.read r.last r.walked (omega (arith, lt, r.low))));
}
  where
    r : Reached (start s) ts o l left
    r = reached (start s) ts o l left h

    long : length ts ≡ length r.read + length left
    long = ap length r.is ∙ length-append r.read left

    n : length ts - length left ≡ length r.read
    n = omega (arith, long)

    taken : take (length ts - length left) ts ≡ r.read
    taken = (λ i. take (n i) (r.is i)) ∙ takes_first r.read left

    more : (left' : List Token) → left ≡ left' → length ts - length left < length ts → IsFront s (take (length ts - length left + 1) ts) → ⊥
    more [] e lt f = let z : length left ≡ 0 = ap length e in omega (arith, lt, z)
    more (t ∷ us) e lt f =
        none_more s r.read t r.last r.walked (r.stops t us e) (subst (IsFront s) ((λ i. take (n i + 1) ((r.is ∙ ap (λ l. r.read ++ l) e) i)) ∙ takes_one_more r.read t us) f)

    accepted_is : (e : Tree) → IsExpression s e r.read → o ≡ Some e
    accepted_is e x = let c = complete s x in let same : r.last ≡ c.0 = same_some r.last c.0 (sym r.walked ∙ c.1) in r.tree ∙ ap accept same ∙ c.2
      where
        same_some : (x y : State) → Some x ≡ Some y → x ≡ y
        same_some x y h = cc

    lower : (m : ℕ) → IsTooHigh s m r.read → m < l
    lower m high = go (nat_lt m l) refl
      where
        go : (b : Bool) → nat_lt m l ≡ b → m < l
        go true e = ltb-true m l e
        go false e = let ge : l ≤ m = ltb-false m l e in absurd (not_too_high s m r.read r.last r.walked (omega (arith, ge, r.low)) high)

-- ---- the laws on fronts

pub fronts : (s : Setting) (ts us : List Token) → IsFront s (ts ++ us) → IsFront s ts
fronts s ts us (rest, e, r) = (us ++ rest, e, subst (IsExpression s e) (append_assoc ts us rest) r)

shorter : (s : Setting) (ts : List Token) (n m : ℕ) → n < m → IsFront s (take m ts) → IsFront s (take (n + 1) ts)
shorter s ts n m lt f =
    let len : m ≡ (n + 1) + (m - (n + 1)) = omega (arith, lt) in
    fronts s (take (n + 1) ts) (take (m - (n + 1)) (drop (n + 1) ts)) (subst (IsFront s) (ap (λ k. take k ts) len ∙ take-add (n + 1) (m - (n + 1)) ts) f)

not_below : (s : Setting) (ts : List Token) (n m : ℕ) → IsLongestFront s ts n → IsLongestFront s ts m → m ≤ n
not_below s ts n m x y = go (nat_lt n m) refl
  where
    go : (b : Bool) → nat_lt n m ≡ b → m ≤ n
    go true h = let lt : n < m = ltb-true _ _ h in absurd (x.stops (omega (arith, lt, y.within)) (shorter s ts n m lt y.front))
    go false h = ltb-false _ _ h

pub one_longest : (s : Setting) (ts : List Token) (n m : ℕ) → IsLongestFront s ts n → IsLongestFront s ts m → n ≡ m
one_longest s ts n m x y = omega (arith, not_below s ts n m x y, not_below s ts m n y x)

pub shows : (s : Setting) (n : ℕ) (ts : List Token) (e : Tree) → IsExpression s e ts → IsTooHigh s n ts ↔ n < height e
shows s n ts e r =
    let c = complete s r in
    (λ high. high [] e (subst (IsExpression s e) (sym (append-nil ts)) r), λ lt. too_high s n ts c.0 c.1 (omega (arith, lt, accept_least c.0 e c.2)))
