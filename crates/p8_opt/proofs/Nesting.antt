-- In a folded body each NEXT and each QUIT stands in a loop where it stood in one, and its blocks stand no deeper.
use Rattle.std.proofs.Common.{ℕ, suc, ◌≤◌, max, Bool, true, false, ◌&&◌, Option, Some, None, refl, arith}
use Rattle.std.specs.Prelude.{IsTrue}
use Rattle.p8_tree.specs.declared.places.Place.{Place}
use Rattle.p8_tree.specs.Expressions.{Items}
use Rattle.p8_tree.specs.Statements.{Course, Statement, statement, Do, If, Case, Repeat, Next, Quit, Return, Abort, arm, Otherwise, nothing_else, otherwise, Statements, no_statements, ◌▹◌, Arms, no_arms, ◌⊳◌}
use Rattle.p8_tree.specs.Nesting.{leave_loops, leaves_loop, arms_leave, other_leaves, depth, statement_depth, arms_depth, other_depth}
use Rattle.p8_meaning.specs.Constants.{Constants}
use Rattle.p8_meaning.specs.Folding.{folded_items, folded_course, kept, loop, Chain, Going, Ended, Condition, Known, Unknown, NoTest, condition, with_arm, whole_chain, chain, joined, folded_statement, folded_body, folded_other, folded_chain, folded_arms}

-- ---- NEXT and QUIT

and-first : (a b : Bool) → IsTrue (a && b) → IsTrue a
and-first true b h = refl
and-first false b h = h

and-second : (a b : Bool) → IsTrue (a && b) → IsTrue b
and-second true b h = h
and-second false b h = absurd (cc)

both-true : (a b : Bool) → IsTrue a → IsTrue b → IsTrue (a && b)
both-true true b h k = k
both-true false b h k = h

module _ (inside : Bool) where
  abbrev ChainLeaves : Chain → Type 0
  ChainLeaves (Going arms) = IsTrue (arms_leave inside arms)
  ChainLeaves (Ended arms body) = IsTrue (arms_leave inside arms) × IsTrue (leave_loops inside body)

  with-leaves : (left : Chain) (known : Condition) (tests : Items) (negated : Bool) (body : Statements) → ChainLeaves left → IsTrue (leave_loops inside body) → ChainLeaves (with_arm left known (arm tests negated body))
  with-leaves (Going arms) NoTest tests negated body h k = both-true _ _ h k
  with-leaves (Going arms) Unknown tests negated body h k = both-true _ _ h k
  with-leaves (Going arms) (Known true) tests negated body h k = (h, k)
  with-leaves (Going arms) (Known false) tests negated body h k = h
  with-leaves (Ended arms last) NoTest tests negated body h k = both-true _ _ h.0 k
  with-leaves (Ended arms last) Unknown tests negated body h k = h
  with-leaves (Ended arms last) (Known b) tests negated body h k = h

  whole-leaves : (place : Place) (arms : Arms) (other : Otherwise) → IsTrue (arms_leave inside arms) → IsTrue (other_leaves inside other) → IsTrue (leave_loops inside (whole_chain place arms other))
  whole-leaves place no_arms nothing_else h k = refl
  whole-leaves place no_arms (otherwise body) h k = k
  whole-leaves place (arms ⊳ x) other h k = both-true _ _ h k

  chain-leaves : (place : Place) (left : Chain) (other : Otherwise) → ChainLeaves left → IsTrue (other_leaves inside other) → IsTrue (leave_loops inside (chain place left other))
  chain-leaves place (Going arms) other h k = whole-leaves place arms other h k
  chain-leaves place (Ended arms body) other h k = whole-leaves place arms (otherwise body) h.0 h.1

  joined-leaves : (first second : Statements) → IsTrue (leave_loops inside first) → IsTrue (leave_loops inside second) → IsTrue (leave_loops inside (joined first second))
  joined-leaves first no_statements h k = h
  joined-leaves first (second ▹ last) h k = both-true _ _ (joined-leaves first second h (and-first _ _ k)) (and-second (leave_loops inside second) _ k)

  loop-leaves : (place : Place) (o : Option Course) (body : Statements) → IsTrue (leave_loops true body) → IsTrue (leave_loops inside (loop place o body))
  loop-leaves place None body k = refl
  loop-leaves place (Some course) body k = k

module _ (c : Constants) where
  mutual
    statement-leaves : (inside : Bool) (s : Statement) → IsTrue (leaves_loop inside s) → IsTrue (leave_loops inside (folded_statement c s))
    statement-leaves inside (statement place (Do e)) h = refl
    statement-leaves inside (statement place (If arms other)) h =
        chain-leaves inside place (folded_chain c arms) (folded_other c other) (chain-leave inside arms (and-first _ _ h)) (other-leave inside other (and-second (arms_leave inside arms) _ h))
    statement-leaves inside (statement place (Case e arms other)) h =
        both-true _ _ (arms-leave inside arms (and-first _ _ h)) (other-leave inside other (and-second (arms_leave inside arms) _ h))
    statement-leaves inside (statement place (Repeat course body)) h = loop-leaves inside place (kept (folded_course c course)) (folded_body c body) (body-leaves true body h)
    statement-leaves inside (statement place Next) h = h
    statement-leaves inside (statement place Quit) h = h
    statement-leaves inside (statement place (Return e)) h = refl
    statement-leaves inside (statement place (Abort e)) h = refl

    pub body-leaves : (inside : Bool) (ss : Statements) → IsTrue (leave_loops inside ss) → IsTrue (leave_loops inside (folded_body c ss))
    body-leaves inside no_statements h = refl
    body-leaves inside (ss ▹ s) h =
        joined-leaves inside (folded_body c ss) (folded_statement c s) (body-leaves inside ss (and-first _ _ h)) (statement-leaves inside s (and-second (leave_loops inside ss) _ h))

    other-leave : (inside : Bool) (other : Otherwise) → IsTrue (other_leaves inside other) → IsTrue (other_leaves inside (folded_other c other))
    other-leave inside nothing_else h = refl
    other-leave inside (otherwise body) h = body-leaves inside body h

    chain-leave : (inside : Bool) (arms : Arms) → IsTrue (arms_leave inside arms) → ChainLeaves inside (folded_chain c arms)
    chain-leave inside no_arms h = refl
    chain-leave inside (arms ⊳ arm tests negated body) h =
        with-leaves inside (folded_chain c arms) (condition c negated tests) (folded_items c tests) negated (folded_body c body) (chain-leave inside arms (and-first _ _ h)) (body-leaves inside body (and-second (arms_leave inside arms) _ h))

    arms-leave : (inside : Bool) (arms : Arms) → IsTrue (arms_leave inside arms) → IsTrue (arms_leave inside (folded_arms c arms))
    arms-leave inside no_arms h = refl
    arms-leave inside (arms ⊳ arm tests negated body) h =
        both-true _ _ (arms-leave inside arms (and-first _ _ h)) (body-leaves inside body (and-second (arms_leave inside arms) _ h))

-- ---- blocks in one another

-- how deep a chain without its ELSE is, with a body that ends it
abbrev chain_depth : Chain → ℕ
chain_depth (Going arms) = arms_depth arms
chain_depth (Ended arms body) = max (arms_depth arms) (suc (depth body))

with-shallow : (left : Chain) (known : Condition) (tests : Items) (negated : Bool) (body : Statements) (d e : ℕ) → chain_depth left ≤ d → depth body ≤ e → chain_depth (with_arm left known (arm tests negated body)) ≤ max d (suc e)
with-shallow (Going arms) NoTest tests negated body d e h k = omega (arith, h, k)
with-shallow (Going arms) Unknown tests negated body d e h k = omega (arith, h, k)
with-shallow (Going arms) (Known true) tests negated body d e h k = omega (arith, h, k)
with-shallow (Going arms) (Known false) tests negated body d e h k = omega (arith, h)
with-shallow (Ended arms last) NoTest tests negated body d e h k = omega (arith, h, k)
with-shallow (Ended arms last) Unknown tests negated body d e h k = omega (arith, h)
with-shallow (Ended arms last) (Known b) tests negated body d e h k = omega (arith, h)

whole-shallow : (place : Place) (arms : Arms) (other : Otherwise) → depth (whole_chain place arms other) ≤ max (arms_depth arms) (other_depth other)
whole-shallow place no_arms nothing_else = omega arith
whole-shallow place no_arms (otherwise body) = omega arith
whole-shallow place (arms ⊳ x) other = omega arith

chain-shallow : (place : Place) (left : Chain) (other : Otherwise) → depth (chain place left other) ≤ max (chain_depth left) (other_depth other)
chain-shallow place (Going arms) other = whole-shallow place arms other
chain-shallow place (Ended arms body) other = let low = whole-shallow place arms (otherwise body) in omega (arith, low)

joined-shallow : (first second : Statements) → depth (joined first second) ≤ max (depth first) (depth second)
joined-shallow first no_statements = omega arith
joined-shallow first (second ▹ last) = let low = joined-shallow first second in omega (arith, low)

loop-shallow : (place : Place) (o : Option Course) (body : Statements) → depth (loop place o body) ≤ suc (depth body)
loop-shallow place None body = omega arith
loop-shallow place (Some course) body = omega arith

module _ (c : Constants) where
  mutual
    statement-shallow : (s : Statement) → depth (folded_statement c s) ≤ statement_depth s
    statement-shallow (statement place (Do e)) = omega arith
    statement-shallow (statement place (If arms other)) =
        let whole = chain-shallow place (folded_chain c arms) (folded_other c other) in
        let one = chain-low arms in
        let two = other-shallow other in
        omega (arith, whole, one, two)
    statement-shallow (statement place (Case e arms other)) = let one = arms-shallow arms in let two = other-shallow other in omega (arith, one, two)
    statement-shallow (statement place (Repeat course body)) =
        let whole = loop-shallow place (kept (folded_course c course)) (folded_body c body) in
        let inner = body-shallow body in
        omega (arith, whole, inner)
    statement-shallow (statement place Next) = omega arith
    statement-shallow (statement place Quit) = omega arith
    statement-shallow (statement place (Return e)) = omega arith
    statement-shallow (statement place (Abort e)) = omega arith

    pub body-shallow : (ss : Statements) → depth (folded_body c ss) ≤ depth ss
    body-shallow no_statements = omega arith
    body-shallow (ss ▹ s) =
        let whole = joined-shallow (folded_body c ss) (folded_statement c s) in
        let one = body-shallow ss in
        let two = statement-shallow s in
        omega (arith, whole, one, two)

    other-shallow : (other : Otherwise) → other_depth (folded_other c other) ≤ other_depth other
    other-shallow nothing_else = omega arith
    other-shallow (otherwise body) = let inner = body-shallow body in omega (arith, inner)

    chain-low : (arms : Arms) → chain_depth (folded_chain c arms) ≤ arms_depth arms
    chain-low no_arms = omega arith
    chain-low (arms ⊳ arm tests negated body) =
        with-shallow (folded_chain c arms) (condition c negated tests) (folded_items c tests) negated (folded_body c body) (arms_depth arms) (depth body) (chain-low arms) (body-shallow body)

    arms-shallow : (arms : Arms) → arms_depth (folded_arms c arms) ≤ arms_depth arms
    arms-shallow no_arms = omega arith
    arms-shallow (arms ⊳ arm tests negated body) = let one = arms-shallow arms in let two = body-shallow body in omega (arith, one, two)
