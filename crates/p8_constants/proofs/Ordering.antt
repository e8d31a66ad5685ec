-- In an order of evaluation nothing is circular.
use Rattle.std.proofs.Common.{◌<◌, ◌≡◌, ℕ, ◌≤◌, List, Some, None, IsSome, refl, arith, subst, sym}
use Rattle.std.specs.Prelude.{Contains}
use Rattle.p8_constants.specs.Items.{Term, Sum, definition}
use Rattle.p8_constants.specs.Mentions.{Mentions}
use Rattle.p8_constants.specs.Constants.{Scope, Needs, itself, through, IsConstant, IsOrdered, IsLayered}

-- a term of a name among them whose rank is at most k
record Below (c : Scope) (Among : List ℕ → Type 0) (rank : List ℕ → ℕ) (k : ℕ) (e : Term) : Type 0 where
  name : List ℕ
  sum : Sum
  among : Among name
  low : rank name ≤ k
  is : definition c.constants name ≡ Some sum
  term : Contains sum.terms e

constant_from : {c : Scope} {n : List ℕ} {e : Term} → Needs c n e → IsConstant c n
constant_from {c} {n} (itself {sum = sum} outside d among) = (outside, subst IsSome (sym d) refl)
constant_from (through a m b) = constant_from a

below : (c : Scope) (Among : List ℕ → Type 0) (rank : List ℕ → ℕ) → IsOrdered c Among rank → (n : List ℕ) (e : Term) → Among n → Needs c n e → Below c Among rank (rank n) e
below c Among rank o n e member (itself {sum = sum} outside d among) = record { name = n; sum = sum; among = member; low = omega arith; is = d; term = among }
below c Among rank o n e member (through {m = m} {d = d} first mention second) =
    let found = below c Among rank o n d member first in
    let next = o.lower found.name m found.sum d found.among found.is found.term mention (constant_from second) in
    let more = below c Among rank o m e next.0 second in
    record { name = more.name; sum = more.sum; among = more.among; low = omega (arith, more.low, found.low, next.1); is = more.is; term = more.term }

pub not_circular : (c : Scope) (Among : List ℕ → Type 0) (rank : List ℕ → ℕ) → IsOrdered c Among rank → (n : List ℕ) (e : Term) → Among n → Mentions e.tree n → ¬ Needs c n e
not_circular c Among rank o n e member mention needs =
    let found = below c Among rank o n e member needs in
    let next = o.lower found.name n found.sum e found.among found.is found.term mention (constant_from needs) in
    omega (arith, found.low, next.1)

-- ---- layers

-- what a name needs stands no higher than the terms of its sum
reached : (c : Scope) (Among : Term → Type 0) (layer : Term → ℕ) → IsLayered c Among layer → (k : ℕ) (n : List ℕ) (e : Term) → ((sum : Sum) (f : Term) → c.outside.name n ≡ None → definition c.constants n ≡ Some sum → Contains sum.terms f → Among f × (layer f < k)) → Needs c n e → Among e × (layer e < k)
reached c Among layer o k n e terms (itself {sum = sum} outside d term) = terms sum e outside d term
reached c Among layer o k n e terms (through {m = m} {d = d} first mention second) =
    let at = reached c Among layer o k n d terms first in
    reached c Among layer o k m e
    (λ sum f free is term. let low = o.lower d f m sum at.0 mention free is term in (low.0, omega (arith, low.1, at.1)))
    second

pub lower_not_circular : (c : Scope) (Among : Term → Type 0) (layer : Term → ℕ) → IsLayered c Among layer → (n : List ℕ) (e : Term) → ((sum : Sum) (f : Term) → c.outside.name n ≡ None → definition c.constants n ≡ Some sum → Contains sum.terms f → Among f × (layer f < layer e)) → ¬ Needs c n e
lower_not_circular c Among layer o n e terms needs = omega (arith, (reached c Among layer o (layer e) n e terms needs).1)
