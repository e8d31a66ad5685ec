-- The code of folded statements is no longer, and its jumps go no farther.
use Rattle.std.proofs.Common.{◌≡◌, ℕ, ◌==◌, not, Bool, true, false, if◌then◌else◌, List, Option, Some, None, option_map, refl, sym, subst, ap}
use Rattle.p8_tree.specs.declared.places.Place.{Place}
use Rattle.p8_tree.specs.Expressions.{Tree, node, single, range, Items, no_items, ◌▸◌}
use Rattle.p8_tree.specs.Statements.{Course, Forever, Count, Before, After, From, statement, Action, Do, If, Case, Repeat, Next, Quit, Return, Abort, arm, Otherwise, nothing_else, otherwise, Statements, no_statements, ◌▹◌, Arms, no_arms, ◌⊳◌}
use Rattle.p8_tree.specs.Proper.{IsCondition, IsProperStatement, AreProperArms, AreProperChoices, IsProperOtherwise, AreProperStatements}
use Rattle.p8_gen.specs.Names.{Names, all_wide}
use Rattle.p8_gen.specs.Pieces.{Piece, from_place, nothing, ◌⨾◌, up_to_end, of_statement, byte, jump, jumping}
use Rattle.p8_gen.specs.Variables.{plain_op, home_of, Pop}
use Rattle.p8_gen.specs.Expressions.{value, alone}
use Rattle.p8_gen.specs.Statements as statements
use Rattle.p8_gen.specs.Statements.{Loop, inside, goes_on, leaves, with_value, test_of, zero_jump, tests, step_of, step_effect, plain_name, code_of, body, chain, other_body, all_tests, case_bodies}
use Rattle.p8_gen.proofs.Widths as widths
use Rattle.p8_gen.proofs.Widths.{Alike}
use Rattle.p8_meaning.specs.Constants.{Constants, constants_in, constant_value, shorter_number}
use Rattle.p8_meaning.specs.Folding as folding
use Rattle.p8_meaning.specs.Folding.{folded, folded_items, folded_inside, folded_course, holds, number_in, kept_count, kept_before, kept, loop, Chain, Going, Ended, Condition, Known, Unknown, NoTest, condition, known, with_arm, joined, folded_statement, folded_body, folded_other, folded_chain, folded_arms}
use Rattle.p8_opt.specs.Asked.{HideNoConstant}
use Rattle.p8_opt.proofs.Growing as growing
use Rattle.p8_opt.proofs.Growing.{Grows, value-grows, test-grows, action-grows, body-grows}
use Rattle.p8_opt.proofs.Steady.{same-body, arm-steady, chain-steady, chain-other-steady, choices-steady, case-steady, inner-steady, forever-steady, count-steady, before-steady, after-steady, from-steady, goes-alike}
use Rattle.p8_opt.proofs.Length.{suits-of}
use Rattle.p8_opt.proofs.Closer.{Targets, nowhere, ahead, back, AreAround, Within, after, way, is_ahead, IsTarget, first-ahead, first-back, under-ahead, under-back, Steady, Closer, both, ones, bytes, nothings, gone, of-left, of-right, either_by, jumps, steps, ups, up-jumps, froms}
use Rattle.p8_opt.proofs.Expressions.{tree-closer, inside-closer}

-- ---- targets

pub lift : {ts : Targets} {a b : Piece} (t u : ℕ) → Closer ts a b → Closer (ahead t u ts) a b
lift t u x = record { left = x.left; right = x.right; short = x.short; near = λ v w around. x.near v w around.1 }

-- the places to which NEXT and QUIT go are targets
abbrev pub AreLoops : Targets → Option Loop → Option Loop → Type 0
AreLoops ts None None = Unit {0}
AreLoops ts None (Some k) = ⊥
AreLoops ts (Some l) None = ⊥
AreLoops ts (Some l) (Some k) = IsTarget ts l.next k.next × IsTarget ts l.quit k.quit × (l.counted ≡ k.counted)

loops-ahead : (t u : ℕ) (ts : Targets) (l k : Option Loop) → AreLoops ts l k → AreLoops (ahead t u ts) l k
loops-ahead t u ts None None h = tt
loops-ahead t u ts None (Some k) h = h
loops-ahead t u ts (Some l) None h = h
loops-ahead t u ts (Some l) (Some k) h = (under-ahead t u h.0, under-ahead t u h.1, h.2)

-- ---- names

-- the names of a method whose jumps are wide, and which hide no constant
pub record Ready (n : Names) : Type 0 where
  pub wide : n.wide ≡ all_wide
  pub hides : HideNoConstant n

ready-in : (n : Names) (place : Place) → Ready n → Ready (record n { statement = place })
ready-in n place ready = record { wide = ready.wide; hides = record { named = ready.hides.named } }

-- statements tell their own places
body-anywhere : (n : Names) (place : Place) (l : Option Loop) (ss : Statements) → body (record n { statement = place }) l ss ≡ body n l ss
body-anywhere n place l no_statements = refl
body-anywhere n place l (ss ▹ statement at action) = ap (λ (p : Piece). p ⨾ of_statement at (code_of (record n { statement = at }) l action)) (body-anywhere n place l ss)

joined-code : (n : Names) (l : Option Loop) (first second : Statements) → body n l (joined first second) ≡ body n l first ⨾ body n l second
joined-code n l first no_statements = refl
joined-code n l first (second ▹ last) = ap (λ (p : Piece). p ⨾ statements.code n l last) (joined-code n l first second)

-- ---- parts of statements

module _ (n : Names) (ready : Ready n) where
  expression-closer : (ts : Targets) (e : Tree) → Closer ts (value n (folded (constants_in n.constants) e)) (value n e)
  expression-closer ts e = tree-closer n ready.wide (shorter_number (constants_in n.constants)) (suits-of n ready.hides) ts e

  goes : {ts : Targets} (code t u : ℕ) → IsTarget ts t u → Closer ts (jump n.wide n.statement code t) (jump n.wide n.statement code u)
  goes code t u to = jumps n.wide ready.wide n.statement code t u to

  done-closer : (ts : Targets) (e : Tree) → Closer ts (alone n (folded_inside (constants_in n.constants) e)) (alone n e)
  done-closer ts (node place form) = inside-closer n ready.wide (shorter_number (constants_in n.constants)) (suits-of n ready.hides) ts place form

  with-value-closer : (ts : Targets) (e : Option Tree) (a b : ℕ) → Closer ts (with_value n (option_map (folded (constants_in n.constants)) e) a b) (with_value n e a b)
  with-value-closer ts None a b = bytes a
  with-value-closer ts (Some e) a b = both (expression-closer ts e) (bytes b)

  test-closer : (ts : Targets) (xs : Items) → Closer ts (test_of n (folded_items (constants_in n.constants) xs)) (test_of n xs)
  test-closer ts (no_items ▸ single e) = expression-closer ts e
  test-closer ts no_items = nothings
  test-closer ts (no_items ▸ range a b) = nothings
  test-closer ts (xs ▸ x ▸ y) = nothings

  tests-closer : (ts : Targets) (t u : ℕ) → IsTarget ts t u → (xs : Items) → Closer ts (tests n t (folded_items (constants_in n.constants) xs)) (tests n u xs)
  tests-closer ts t u to no_items = nothings
  tests-closer ts t u to (xs ▸ single e) = both (both (tests-closer ts t u to xs) (expression-closer ts e)) (goes 0x0D t u to)
  tests-closer ts t u to (xs ▸ range a b) = both (both (both (tests-closer ts t u to xs) (expression-closer ts a)) (expression-closer ts b)) (goes 0x0E t u to)

  step-closer : (ts : Targets) (step : Option Tree) → Closer ts (step_of n (option_map (folded (constants_in n.constants)) step)) (step_of n step)
  step-closer ts None = nothings
  step-closer ts (Some e) = expression-closer ts e

  stepping-closer : (ts : Targets) (name : List ℕ) (t u : ℕ) → IsTarget ts t u → (step : Option Tree)
      → Closer ts (jumping n.wide n.statement t (plain_name n name (step_effect (option_map (folded (constants_in n.constants)) step)))) (jumping n.wide n.statement u (plain_name n name (step_effect step)))
  stepping-closer ts name t u to None = steps n.wide ready.wide n.statement t u (plain_name n name 0x02) to
  stepping-closer ts name t u to (Some e) = steps n.wide ready.wide n.statement t u (plain_name n name 0x06) to

  goes-on-closer : (ts : Targets) (l k : Option Loop) → AreLoops ts l k → Closer ts (goes_on n l) (goes_on n k)
  goes-on-closer ts None None h = nothings
  goes-on-closer ts None (Some k) h = absurd h
  goes-on-closer ts (Some l) None h = absurd h
  goes-on-closer ts (Some l) (Some k) h = goes 0x04 l.next k.next h.0

  leaves-closer : (ts : Targets) (l k : Option Loop) → AreLoops ts l k → Closer ts (leaves n l) (leaves n k)
  leaves-closer ts None None h = nothings
  leaves-closer ts None (Some k) h = absurd h
  leaves-closer ts (Some l) None h = absurd h
  leaves-closer ts (Some l) (Some k) h = both (either_by l.counted k.counted h.2 (bytes 0x14) nothings) (goes 0x04 l.quit k.quit h.1)

  -- ---- loops, around a body

  module _ (ss original : Statements) (l k : Option Loop) (around : (ts : Targets) (i j : Option Loop) → AreLoops ts i j → Closer ts (body n i ss) (body n j original)) where
    inner-closer : (ts : Targets) (x y : ℕ) (counted : Bool) → IsTarget ts x y → Closer ts (up_to_end (λ next. body n (inside next x counted) ss)) (up_to_end (λ next. body n (inside next y counted) original))
    inner-closer ts x y counted to = ups (inner-steady n x counted ss) (inner-steady n y counted original) (λ i j. around (ahead i j ts) (inside i x counted) (inside j y counted) (first-ahead i j ts, under-ahead i j to, refl))

    forever-closer : (ts : Targets) → Closer ts (code_of n l (Repeat Forever ss)) (code_of n k (Repeat Forever original))
    forever-closer ts =
        ups (forever-steady n ss) (forever-steady n original) (λ x y. froms (λ i j.
        both (around (back i j (ahead x y ts)) (inside i x false) (inside j y false) (first-back i j (ahead x y ts), under-back i j (first-ahead x y ts), refl)) (goes 0x04 i j (first-back i j (ahead x y ts)))))

    count-closer : (ts : Targets) (e : Tree) → Closer ts (code_of n l (Repeat (Count (folded (constants_in n.constants) e)) ss)) (code_of n k (Repeat (Count e) original))
    count-closer ts e =
        ups (count-steady n (folded (constants_in n.constants) e) ss) (count-steady n e original) (λ x y.
        both (both (expression-closer (ahead x y ts) e) (goes 0x08 x y (first-ahead x y ts))) (froms (λ i j.
        both (inner-closer (back i j (ahead x y ts)) x y true (under-back i j (first-ahead x y ts))) (goes 0x09 i j (first-back i j (ahead x y ts))))))

    before-closer : (ts : Targets) (until : Bool) (e : Tree) → Closer ts (code_of n l (Repeat (Before until (folded (constants_in n.constants) e)) ss)) (code_of n k (Repeat (Before until e) original))
    before-closer ts until e =
        ups (before-steady n until (folded (constants_in n.constants) e) ss) (before-steady n until e original) (λ x y. froms (λ i j.
        both (both (both (expression-closer (back i j (ahead x y ts)) e) (goes (zero_jump until) x y (under-back i j (first-ahead x y ts))))
        (around (back i j (ahead x y ts)) (inside i x false) (inside j y false) (first-back i j (ahead x y ts), under-back i j (first-ahead x y ts), refl))) (goes 0x04 i j (first-back i j (ahead x y ts)))))

    after-closer : (ts : Targets) (until : Bool) (e : Tree) → Closer ts (code_of n l (Repeat (After until (folded (constants_in n.constants) e)) ss)) (code_of n k (Repeat (After until e) original))
    after-closer ts until e =
        ups (after-steady n until (folded (constants_in n.constants) e) ss) (after-steady n until e original) (λ x y. froms (λ i j.
        both (both (inner-closer (back i j (ahead x y ts)) x y false (under-back i j (first-ahead x y ts))) (expression-closer (back i j (ahead x y ts)) e))
        (goes (zero_jump (not until)) i j (first-back i j (ahead x y ts)))))

    from-closer : (ts : Targets) (name : List ℕ) (a b : Tree) (step : Option Tree) (at : Place)
        → Closer ts (code_of n l (Repeat (folded_course (constants_in n.constants) (From name a b step at)) ss)) (code_of n k (Repeat (From name a b step at) original))
    from-closer ts name a b step at =
        ups (from-steady n name (folded (constants_in n.constants) a) (folded (constants_in n.constants) b) (option_map (folded (constants_in n.constants)) step) ss) (from-steady n name a b step original) (λ x y.
        both (both (expression-closer (ahead x y ts) a) (ones (plain_op (home_of n name) Pop))) (froms (λ i j.
        both (both (both (both (inner-closer (back i j (ahead x y ts)) x y false (under-back i j (first-ahead x y ts))) (step-closer (back i j (ahead x y ts)) step)) (expression-closer (back i j (ahead x y ts)) a))
        (expression-closer (back i j (ahead x y ts)) b)) (stepping-closer (back i j (ahead x y ts)) name i j (first-back i j (ahead x y ts)) step))))

    -- a loop that only its body ends, in place of one with a test before it
    endless-closer : (ts : Targets) (until : Bool) (e : Tree) → Closer ts (code_of n l (Repeat Forever ss)) (code_of n k (Repeat (Before until e) original))
    endless-closer ts until e =
        ups (forever-steady n ss) (before-steady n until e original) (λ x y. froms (λ i j.
        both (both (gone (growing.both (value-grows n e) (growing.jumps n.wide n.statement (zero_jump until) y)))
        (around (back i j (ahead x y ts)) (inside i x false) (inside j y false) (first-back i j (ahead x y ts), under-back i j (first-ahead x y ts), refl))) (goes 0x04 i j (first-back i j (ahead x y ts)))))

    -- a loop that is left, or none
    abbrev IsCloser : Targets → Option Course → Course → Type 0
    IsCloser ts None course = Unit {0}
    IsCloser ts (Some left) course = Closer ts (code_of n l (Repeat left ss)) (code_of n k (Repeat course original))

    count-if : (ts : Targets) (t : Bool) (e : Tree) → IsCloser ts (if t then None else Some (Count (folded (constants_in n.constants) e))) (Count e)
    count-if ts true e = tt
    count-if ts false e = count-closer ts e

    count-kept : (ts : Targets) (o : Option ℕ) (e : Tree) → IsCloser ts (kept_count o (folded (constants_in n.constants) e)) (Count e)
    count-kept ts None e = count-closer ts e
    count-kept ts (Some v) e = count-if ts (v == 0) e

    before-if : (ts : Targets) (t until : Bool) (e : Tree) → IsCloser ts (if t then Some Forever else None) (Before until e)
    before-if ts true until e = endless-closer ts until e
    before-if ts false until e = tt

    before-kept : (ts : Targets) (until : Bool) (o : Option ℕ) (e : Tree) → IsCloser ts (kept_before until o (folded (constants_in n.constants) e)) (Before until e)
    before-kept ts until None e = before-closer ts until e
    before-kept ts until (Some v) e = before-if ts (holds until v) until e

    kept-closer : (ts : Targets) (course : Course) → IsCloser ts (kept (folded_course (constants_in n.constants) course)) course
    kept-closer ts Forever = forever-closer ts
    kept-closer ts (Count e) = count-kept ts (number_in (folded (constants_in n.constants) e)) e
    kept-closer ts (Before until e) = before-kept ts until (number_in (folded (constants_in n.constants) e)) e
    kept-closer ts (After until e) = after-closer ts until e
    kept-closer ts (From name a b step at) = from-closer ts name a b step at

-- ---- chains of IF

-- the arms that are left, after each of which but the last one stands `further`, and after the last one `last`; or the
-- arms and the body of an ELSE
abbrev chain_code : Names → Option Loop → (further last : Piece) → Chain → Piece
chain_code n l further last (Going arms) = chain n l further last arms
chain_code n l further last (Ended arms ss) = chain n l further further arms ⨾ body n l ss

-- the body of the ELSE of a chain that goes on
abbrev rest_code : Names → Option Loop → Chain → Statements → Piece
rest_code n l (Going arms) ss = body n l ss
rest_code n l (Ended arms last) ss = nothing

rest-closer : {ts : Targets} {b : Piece} (n : Names) (l : Option Loop) (left : Chain) (ss : Statements) → Closer ts (body n l ss) b → Closer ts (rest_code n l left ss) b
rest-closer n l (Going arms) ss h = h
rest-closer n l (Ended arms last) ss h = gone h.right

-- what stands after an arm, in either code
record Ends (ts : Targets) (a b : Piece) : Type 0 where
  closer : Closer ts a b
  left : Alike a a
  right : Alike b b

abbrev IsTest : Condition → Type 0
IsTest NoTest = ⊥
IsTest k = Unit {0}

known-test : (negated : Bool) (o : Option ℕ) → IsTest (known negated o)
known-test negated None = tt
known-test negated (Some v) = tt

condition-test : (c : Constants) (negated : Bool) (xs : Items) → IsCondition xs → IsTest (condition c negated xs)
condition-test c negated (no_items ▸ single e) h = known-test negated (constant_value c e)
condition-test c negated no_items h = absurd h
condition-test c negated (no_items ▸ range a b) h = absurd h
condition-test c negated (xs ▸ x ▸ y) h = absurd h

module _ (n : Names) (ready : Ready n) (l k : Option Loop) (ts : Targets) (loops : AreLoops ts l k) where
  abbrev arm_code : Option Loop → (last : Piece) → Items → Bool → Statements → Piece
  arm_code j last items negated ss = up_to_end (λ next. test_of n items ⨾ jump n.wide n.statement (zero_jump negated) next ⨾ body n j ss ⨾ last)

  arm-grows : (last : Piece) → Grows last → (items : Items) (negated : Bool) (ss : Statements) → Grows (arm_code k last items negated ss)
  arm-grows last more items negated ss =
      growing.ups (λ x. growing.both (growing.both (growing.both (test-grows n items) (growing.jumps n.wide n.statement (zero_jump negated) x)) (body-grows n k ss)) more)

  module _ (tests : Items) (negated : Bool) (ss original : Statements) (around : (us : Targets) → AreLoops us l k → Closer us (body n l ss) (body n k original)) where
    arm-closer : (a b : Piece) → Ends ts a b → Closer ts (arm_code l a (folded_items (constants_in n.constants) tests) negated ss) (arm_code k b tests negated original)
    arm-closer a b ends =
        ups (arm-steady n l a ends.left (folded_items (constants_in n.constants) tests) negated ss) (arm-steady n k b ends.right tests negated original) (λ x y.
        both (both (both (test-closer n ready (ahead x y ts) tests) (goes n ready (zero_jump negated) x y (first-ahead x y ts))) (around (ahead x y ts) (loops-ahead x y ts l k loops))) (lift x y ends.closer))

    -- the body alone, in place of the arm
    body-of-arm : (b : Piece) → Grows b → Alike b b → Closer ts (body n l ss) (arm_code k b tests negated original)
    body-of-arm b more like =
        ups {p = λ x. body n l ss} (λ x y. same-body n l ss) (arm-steady n k b like tests negated original) (λ x y.
        both (both (gone (growing.both (test-grows n tests) (growing.jumps n.wide n.statement (zero_jump negated) y))) (around (ahead x y ts) (loops-ahead x y ts l k loops))) (gone more))

    arm-step : (left : Chain) (arms : Arms) (verdict : Condition) → IsTest verdict → (f a g b : Piece) → Ends ts a b
        → Closer ts (chain_code n l f f left) (chain n k g g arms) → Closer ts (chain_code n l f a left) (chain n k g g arms)
        → Closer ts (chain_code n l f a (with_arm left verdict (arm (folded_items (constants_in n.constants) tests) negated ss))) (chain n k g g arms ⨾ arm_code k b tests negated original)
    arm-step (Going before) arms NoTest test f a g b ends first last = absurd test
    arm-step (Going before) arms Unknown test f a g b ends first last = both first (arm-closer a b ends)
    arm-step (Going before) arms (Known true) test f a g b ends first last = both first (body-of-arm b ends.closer.right ends.right)
    arm-step (Going before) arms (Known false) test f a g b ends first last = both last (gone (arm-grows b ends.closer.right tests negated original))
    arm-step (Ended before last_body) arms NoTest test f a g b ends first last = absurd test
    arm-step (Ended before last_body) arms Unknown test f a g b ends first last = both first (gone (arm-grows b ends.closer.right tests negated original))
    arm-step (Ended before last_body) arms (Known t) test f a g b ends first last = both first (gone (arm-grows b ends.closer.right tests negated original))

-- the code of what is left of a chain, without an ELSE
left-closer : (n : Names) (place : Place) (l : Option Loop) (left : Chain) {ts : Targets} {b : Piece}
    → Closer ts (up_to_end (λ end. chain_code (record n { statement = place }) l (jump n.wide place 0x04 end) nothing left)) b → Closer ts (body n l (folding.chain place left nothing_else)) b
left-closer n place l (Going no_arms) x = x
left-closer n place l (Going (arms ⊳ y)) x = of-left place x
left-closer n place l (Ended no_arms ss) {ts} {b} x = subst (λ (p : Piece). Closer ts p b) (body-anywhere n place l ss) x
left-closer n place l (Ended (arms ⊳ y) ss) x = of-left place x

-- with one
left-other-closer : (n : Names) (place : Place) (l : Option Loop) (left : Chain) (ss : Statements) {ts : Targets} {b : Piece}
    → Closer ts (up_to_end (λ end. chain_code (record n { statement = place }) l (jump n.wide place 0x04 end) (jump n.wide place 0x04 end) left ⨾ rest_code (record n { statement = place }) l left ss)) b
    → Closer ts (body n l (folding.chain place left (otherwise ss))) b
left-other-closer n place l (Going no_arms) ss {ts} {b} x = subst (λ (p : Piece). Closer ts p b) (body-anywhere n place l ss) x
left-other-closer n place l (Going (arms ⊳ y)) ss x = of-left place x
left-other-closer n place l (Ended no_arms last) ss {ts} {b} x = subst (λ (p : Piece). Closer ts p b) (body-anywhere n place l last) x
left-other-closer n place l (Ended (arms ⊳ y) last) ss x = of-left place x

left-steady : (n : Names) (l : Option Loop) (left : Chain) → Steady (λ x. chain_code n l (jump n.wide n.statement 0x04 x) nothing left)
left-steady n l (Going arms) = chain-steady n l arms
left-steady n l (Ended arms ss) = λ x y. widths.both (chain-other-steady n l arms x y) (same-body n l ss)

left-other-steady : (n : Names) (l : Option Loop) (left : Chain) (ss : Statements)
    → Steady (λ x. chain_code n l (jump n.wide n.statement 0x04 x) (jump n.wide n.statement 0x04 x) left ⨾ rest_code n l left ss)
left-other-steady n l (Going arms) ss = λ x y. widths.both (chain-other-steady n l arms x y) (same-body n l ss)
left-other-steady n l (Ended arms last) ss = λ x y. widths.both (chain-other-steady n l arms x y) (same-body n l last)

-- ---- statements

-- a statement, or none, in place of a loop
loop-closer : (n : Names) (ready : Ready n) (place : Place) (ss original : Statements) (l k : Option Loop)
    (around : (us : Targets) (i j : Option Loop) → AreLoops us i j → Closer us (body (record n { statement = place }) i ss) (body (record n { statement = place }) j original))
    → (ts : Targets) (o : Option Course) (course : Course) → IsCloser (record n { statement = place }) (ready-in n place ready) ss original l k around ts o course
    → Closer ts (body n l (loop place o ss)) (code_of (record n { statement = place }) k (Repeat course original))
loop-closer n ready place ss original l k around ts None course h = gone (action-grows (record n { statement = place }) k (Repeat course original))
loop-closer n ready place ss original l k around ts (Some left) course h = of-left place h

-- a place from which on bodies of arms stand lies ahead
record IsFirst (ts : Targets) (t u : ℕ) : Type 0 where
  by : (a b x y : ℕ) → AreAround ts a b x y → Within b t y u

mutual
  statement-closer : (n : Names) (ready : Ready n) (ts : Targets) (l k : Option Loop) → AreLoops ts l k → (place : Place) (action : Action) → IsProperStatement (statement place action)
      → Closer ts (body n l (folded_statement (constants_in n.constants) (statement place action))) (code_of (record n { statement = place }) k action)
  statement-closer n ready ts l k loops place (Do e) proper = of-left place (done-closer (record n { statement = place }) (ready-in n place ready) ts e)
  statement-closer n ready ts l k loops place (If arms nothing_else) proper =
      let m : Names = record n { statement = place } in
      let left : Chain = folded_chain (constants_in n.constants) arms in
      left-closer n place l left
      (ups (left-steady m l left) (chain-steady m k arms) (λ x y.
      chain-closer m (ready-in n place ready) (ahead x y ts) l k (loops-ahead x y ts l k loops) (jump n.wide place 0x04 x) nothing (jump n.wide place 0x04 y) nothing
      (record { closer = goes m (ready-in n place ready) 0x04 x y (first-ahead x y ts); left = goes-alike m x; right = goes-alike m y })
      (record { closer = nothings; left = widths.nothings; right = widths.nothings })
      (record { closer = gone (growing.jumps n.wide place 0x04 y); left = widths.nothings; right = goes-alike m y })
      arms proper.1))
  statement-closer n ready ts l k loops place (If arms (otherwise ss)) proper =
      let m : Names = record n { statement = place } in
      let left : Chain = folded_chain (constants_in n.constants) arms in
      left-other-closer n place l left (folded_body (constants_in n.constants) ss)
      (ups (left-other-steady m l left (folded_body (constants_in n.constants) ss)) (λ x y. widths.both (chain-other-steady m k arms x y) (same-body m k ss)) (λ x y.
      let ends : Ends (ahead x y ts) (jump n.wide place 0x04 x) (jump n.wide place 0x04 y) = record { closer = goes m (ready-in n place ready) 0x04 x y (first-ahead x y ts); left = goes-alike m x; right = goes-alike m y } in
      both
      (chain-closer m (ready-in n place ready) (ahead x y ts) l k (loops-ahead x y ts l k loops) (jump n.wide place 0x04 x) (jump n.wide place 0x04 x) (jump n.wide place 0x04 y) (jump n.wide place 0x04 y) ends ends ends arms proper.1)
      (rest-closer m l left (folded_body (constants_in n.constants) ss) (body-closer m (ready-in n place ready) (ahead x y ts) l k (loops-ahead x y ts l k loops) ss proper.2))))
  statement-closer n ready ts l k loops place (Case e arms other) proper =
      let m : Names = record n { statement = place } in
      let c : Constants = constants_in n.constants in
      of-left place (ups (case-steady m l (folded c e) (folded_arms c arms) (folded_other c other)) (case-steady m k e arms other) (λ x y.
      both
      (up-jumps (choices-steady m l x (folded c e) (folded_arms c arms) (folded_other c other)) (choices-steady m k y e arms other) (λ i j a b.
      both (both (both (both (expression-closer m (ready-in n place ready) (ahead i j (ahead x y ts)) e)
      (all-tests-closer m (ready-in n place ready) (ahead i j (ahead x y ts)) l k (loops-ahead i j (ahead x y ts) l k (loops-ahead x y ts l k loops)) i j a b (record { by = λ p q v w around. around.0 }) arms proper.1)) (bytes 0x0C))
      (other-closer m (ready-in n place ready) (ahead i j (ahead x y ts)) l k (loops-ahead i j (ahead x y ts) l k (loops-ahead x y ts l k loops)) other proper.2))
      (goes m (ready-in n place ready) 0x04 x y (under-ahead i j (first-ahead x y ts)))))
      (bodies-closer m (ready-in n place ready) (ahead x y ts) l k (loops-ahead x y ts l k loops) x y (first-ahead x y ts) arms proper.1)))
  statement-closer n ready ts l k loops place (Repeat course ss) proper =
      let m : Names = record n { statement = place } in
      let c : Constants = constants_in n.constants in
      loop-closer n ready place (folded_body c ss) ss l k (λ us i j h. body-closer m (ready-in n place ready) us i j h ss proper.1) ts (kept (folded_course c course)) course
      (kept-closer m (ready-in n place ready) (folded_body c ss) ss l k (λ us i j h. body-closer m (ready-in n place ready) us i j h ss proper.1) ts course)
  statement-closer n ready ts l k loops place Next proper = of-left place (goes-on-closer (record n { statement = place }) (ready-in n place ready) ts l k loops)
  statement-closer n ready ts l k loops place Quit proper = of-left place (leaves-closer (record n { statement = place }) (ready-in n place ready) ts l k loops)
  statement-closer n ready ts l k loops place (Return e) proper = of-left place (with-value-closer (record n { statement = place }) (ready-in n place ready) ts e 0x32 0x33)
  statement-closer n ready ts l k loops place (Abort e) proper = of-left place (with-value-closer (record n { statement = place }) (ready-in n place ready) ts e 0x30 0x31)

  pub body-closer : (n : Names) (ready : Ready n) (ts : Targets) (l k : Option Loop) → AreLoops ts l k → (ss : Statements) → AreProperStatements ss → Closer ts (body n l (folded_body (constants_in n.constants) ss)) (body n k ss)
  body-closer n ready ts l k loops no_statements proper = nothings
  body-closer n ready ts l k loops (ss ▹ statement place action) proper =
      subst (λ (p : Piece). Closer ts p (body n k (ss ▹ statement place action))) (sym (joined-code n l (folded_body (constants_in n.constants) ss) (folded_statement (constants_in n.constants) (statement place action))))
      (both (body-closer n ready ts l k loops ss proper.0) (of-right place (statement-closer n ready ts l k loops place action proper.1)))

  other-closer : (n : Names) (ready : Ready n) (ts : Targets) (l k : Option Loop) → AreLoops ts l k → (other : Otherwise) → IsProperOtherwise other → Closer ts (other_body n l (folded_other (constants_in n.constants) other)) (other_body n k other)
  other-closer n ready ts l k loops nothing_else proper = nothings
  other-closer n ready ts l k loops (otherwise ss) proper = body-closer n ready ts l k loops ss proper

  chain-closer : (n : Names) (ready : Ready n) (ts : Targets) (l k : Option Loop) → AreLoops ts l k → (f a g b : Piece) → Ends ts f g → Ends ts a b → Ends ts a g → (arms : Arms) → AreProperArms arms
      → Closer ts (chain_code n l f a (folded_chain (constants_in n.constants) arms)) (chain n k g b arms)
  chain-closer n ready ts l k loops f a g b further last shorter no_arms proper = nothings
  chain-closer n ready ts l k loops f a g b further last shorter (arms ⊳ arm tests negated ss) proper =
      arm-step n ready l k ts loops tests negated (folded_body (constants_in n.constants) ss) ss (λ us h. body-closer n ready us l k h ss proper.1.1)
      (folded_chain (constants_in n.constants) arms) arms (condition (constants_in n.constants) negated tests) (condition-test (constants_in n.constants) negated tests proper.1.0) f a g b last
      (chain-closer n ready ts l k loops f f g g further further further arms proper.0)
      (chain-closer n ready ts l k loops f a g g further shorter shorter arms proper.0)

  bodies-closer : (n : Names) (ready : Ready n) (ts : Targets) (l k : Option Loop) → AreLoops ts l k → (t u : ℕ) → IsTarget ts t u → (arms : Arms) → AreProperChoices arms
      → Closer ts (case_bodies n l t (folded_arms (constants_in n.constants) arms)) (case_bodies n k u arms)
  bodies-closer n ready ts l k loops t u to no_arms proper = nothings
  bodies-closer n ready ts l k loops t u to (arms ⊳ arm tests negated ss) proper =
      both (both (both (bodies-closer n ready ts l k loops t u to arms proper.0) (bytes 0x0C)) (body-closer n ready ts l k loops ss proper.1.3)) (goes n ready 0x04 t u to)

  all-tests-closer : (n : Names) (ready : Ready n) (ts : Targets) (l k : Option Loop) → AreLoops ts l k → (i j a b : ℕ) → IsFirst ts i j → (arms : Arms) → AreProperChoices arms
      → Closer ts (all_tests n l i a (folded_arms (constants_in n.constants) arms)) (all_tests n k j b arms)
  all-tests-closer n ready ts l k loops i j a b first no_arms proper = nothings
  all-tests-closer n ready ts l k loops i j a b first (arms ⊳ arm tests negated ss) proper =
      both (all-tests-closer n ready ts l k loops i j a b first arms proper.0)
      (tests-closer n ready ts (case_bodies n l 0 (folded_arms (constants_in n.constants) arms) (from_place i a)).end (case_bodies n k 0 arms (from_place j b)).end
      (record { by = λ p q v w around. is_ahead (after (first.by p q v w around) (way (bodies-closer n ready (ahead 0 0 ts) l k (loops-ahead 0 0 ts l k loops) 0 0 (first-ahead 0 0 ts) arms proper.0) (from_place i a) (from_place j b))) }) tests)

-- ---- methods

pub method-closer : (n : Names) → Ready n → (ss : Statements) → AreProperStatements ss → Closer nowhere (body n None (folded_body (constants_in n.constants) ss) ⨾ of_statement n.statement (byte 0x32)) (body n None ss ⨾ of_statement n.statement (byte 0x32))
method-closer n ready ss proper = both (body-closer n ready nowhere None None tt ss proper) (of-left n.statement (of-right n.statement (bytes 0x32)))
