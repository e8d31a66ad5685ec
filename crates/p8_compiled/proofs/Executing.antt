-- The code of a statement does what the statement does.
use Rattle.std.specs.Prelude.{Contains}
use Rattle.std.proofs.Common.{◌≡◌, inl, inr, refl, sym, ap, subst, ◌∙◌, arith, ℕ, zero, suc, max, ◌+◌, ◌<◌, ◌≤◌, ◌==◌, Bool, true, false, if◌then◌else◌, List, [], ◌∷◌, ◌++◌, length, Option, Some, None, append_assoc, append-nil}
use Rattle.std.proofs.Math.ListN.{length-append}
use Rattle.std.proofs.lemmas.Bool.{ne_eqb}
use Rattle.p8_access.specs.Courses.{Course, Finish}
use Rattle.p8_tree.specs.declared.places.Place.{Place}
use Rattle.p8_tree.specs.Heights.{height}
use Rattle.p8_tree.specs.Proper.{IfThere, IsProperExpression, IsDone, IsProperTest, AreProperTests, IsProperCourse, IsProperStatement, AreProperStatements, AreProperArms, AreProperChoices, IsProperOtherwise}
use Rattle.p8_tree.specs.Expressions.{Tree, node, Number, Str, Strings, Here, Var, Call, Unary, Binary, Assign, Change, Address, ObjectAddress, ObjConst, Built, Look, Variable, Named, Part, Memory, Register, no_index, index, Item, single, range, Items, no_items, ◌▸◌}
use Rattle.p8_tree.specs.Statements.{Course as Loop, Forever, Count, Before, After, From, Statement, statement, Action, Do, If, Case, Repeat, Next, Quit, Return, Abort, arm, Otherwise, nothing_else, otherwise, Statements, no_statements, ◌▹◌, Arms, no_arms, ◌⊳◌}
use Rattle.p8_bcog.specs.declared.marks.CallMark.{CallMark}
use Rattle.p8_bcog.specs.declared.state.SpinState.{SpinState}
use Rattle.p8_bcog.specs.declared.step.Wanted.TheVariants as wanted_case
use Rattle.p8_bcog.specs.Operands.{pushed, is_between, difference}
use Rattle.p8_bcog.specs.Newest.{trapping}
use Rattle.p8_bcog.specs.Places as places
use Rattle.p8_bcog.specs.Calls as calling
use Rattle.p8_meaning.specs.Values.{holds, stepped}
use Rattle.p8_meaning.specs.Doing.{Registers, Rest, for_statement, costs}
use Rattle.p8_meaning.specs.Variables.{Location, named, stores, assigns, changes_alone}
use Rattle.p8_meaning.specs.Calls.{Returned, Value, Result}
use Rattle.p8_meaning.specs.Loops.{passes, counted}
use Rattle.p8_meaning.specs.Expressions as expressions
use Rattle.p8_meaning.specs.Statements as statements
use Rattle.p8_compiled.specs.Courses.{takes_one, takes_two, takes_three, goes_to, goes_if, place_of, drops}
use Rattle.p8_compiled.specs.Depths as depths
use Rattle.p8_compiled.specs.Depths.{held_by}
use Rattle.p8_compiled.specs.Standing as standing
use Rattle.p8_compiled.specs.Standing.{At, with_hand}
use Rattle.p8_compiled.specs.Bodies as bodies
use Rattle.p8_compiled.specs.Bodies.{Inner, outside, plain, with_count}
use Rattle.p8_bcog.specs.Replay.{engine_of}
use Rattle.p8_compiled.proofs.Meets.{Follows, meets-untold, weaken, any-place, goes-back}
use Rattle.p8_compiled.proofs.Stack.{one-is, two-is, three-is}
use Rattle.p8_compiled.proofs.Places.{at, follows-read, follows-write}
use Rattle.p8_compiled.proofs.Stepping.{less, less-le, M, F, pays, by, by-course, by-one, by-two, by-three}
use Rattle.p8_compiled.proofs.Calling.{opened-low, Above, GivesBack, Returns, called, back-unused}
use Rattle.p8_compiled.proofs.Forms.{Working, Stands, Then, backs, K, E, s, room, marked, fits_stack, fits_marks, up, longer, mark_of, opens-meets, own-meets, object-meets, assign-meets, change_alone-meets, up_all}
use Rattle.p8_compiled.proofs.Evaluating.{evaluates-meets, names-meets, index-meets, values-meets, built-meets}

module _ (w : Working) where
  open w use {t, c, callee, abort, g, begun, top, aborts}

  -- how many longs are held, with the names of this file
  abbrev pub depth : Tree → ℕ
  depth = depths.depth (standing.names_method t)

  abbrev pub act_depth : Tree → ℕ
  act_depth = depths.act_depth (standing.names_method t)

  abbrev pub items_depth : Items → ℕ
  items_depth = depths.items_depth (standing.names_method t)

  abbrev pub item_depth : Item → ℕ
  item_depth = depths.item_depth (standing.names_method t)

  abbrev pub ends_depth : Tree → Tree → Option Tree → ℕ
  ends_depth = depths.ends_depth (standing.names_method t)

  abbrev pub course_depth : Loop → ℕ
  course_depth = depths.course_depth (standing.names_method t)

  abbrev pub statement_depth : Statement → ℕ
  statement_depth = depths.statement_depth (standing.names_method t)

  abbrev pub body_depth : Statements → ℕ
  body_depth = depths.body_depth (standing.names_method t)

  abbrev pub chain_depth : Arms → ℕ
  chain_depth = depths.chain_depth (standing.names_method t)

  abbrev pub arms_depth : Arms → ℕ
  arms_depth = depths.arms_depth (standing.names_method t)

  abbrev pub other_depth : Otherwise → ℕ
  other_depth = depths.other_depth (standing.names_method t)

  -- a value takes one place at least
  depth-positive : (e : Tree) → 1 ≤ depth e
  depth-positive (node place (Number n)) = omega arith
  depth-positive (node place (Str text)) = omega arith
  depth-positive (node place (Strings es)) = omega arith
  depth-positive (node place Here) = omega arith
  depth-positive (node place (Var v)) = omega arith
  depth-positive (node place (Call stops object i method inside arguments)) = omega arith
  depth-positive (node place (Unary operator e)) = omega arith
  depth-positive (node place (Binary operator left right)) = omega arith
  depth-positive (node place (Assign v operator e)) = omega arith
  depth-positive (node place (Change v change)) = omega arith
  depth-positive (node place (Address v)) = omega arith
  depth-positive (node place (ObjectAddress e)) = omega arith
  depth-positive (node place (ObjConst object name inside)) = omega arith
  depth-positive (node place (Built code arguments)) = omega arith
  depth-positive (node place (Look code e items)) = omega arith

  -- a state between statements
  abbrev pub St : (p : ℕ) (xs : List ℕ) → Registers → SpinState
  St p xs own = at c p (length g.stack) g.marks xs own

  abbrev pub Fine : (b : ℕ) (xs : List ℕ) → Type 0
  Fine b xs = Stands w b (length g.stack) g.marks xs

  -- what follows a jump that pays for one of the bound
  abbrev pub Paid : (b : ℕ) → (Registers → SpinState) → Rest → Type 0
  Paid b state r = (f : ℕ) (own : Registers) → f ≤ b → M t.memory t.cog t.table t.hand (less f) (Finish (state own)) (r f (record own { statement = t.hand }))

  pub paid : (b : ℕ) (state : Registers → SpinState) (r : Rest) → Then w b state r → Paid b state r
  paid b state r m f own le = weaken (E w) (less-le f) (m f own le).meets

  pub lesser_bound : {b d : ℕ} {state : Registers → SpinState} (r : Rest) → d ≤ b → Then w b state r → Then w d state r
  lesser_bound r within m f own le = m f own (omega (arith, le, within))

  -- what follows NEXT and QUIT
  abbrev pub IsAround : Inner → (b : ℕ) (xs : List ℕ) → (next quit : Rest) → Type 0
  IsAround outside b xs next quit = Unit {0}
  IsAround (plain nx qt) b xs next quit = Paid b (St nx xs) next × Then w b (St qt xs) quit
  IsAround (with_count nx qt) b xs next quit = (n : ℕ) × (rest : List ℕ) × (xs ≡ rest ++ n ∷ []) × Stands w b (length g.stack) g.marks rest × Paid b (St nx xs) next × Then w b (St qt rest) quit

  few_marks : length g.marks + 64 ≤ marked w
  few_marks = omega (arith, begun.opened)

  -- ---- jumps

  jump-meets : (p q target : ℕ) → At t p (bodies.jumps target) q → (b : ℕ) (xs : List ℕ) (r : Rest) → Then w b (St target xs) r → Then w b (St p xs) r
  jump-meets p q target h b xs r m f own le = by t.memory t.cog t.table t.hand c p q (length g.stack) g.marks (bodies.jumps target) h xs own f r (m f own le)

  jump_paid-meets : (p q target : ℕ) → At t p (bodies.jumps target) q → (b : ℕ) (xs : List ℕ) (r : Rest) → Paid b (St target xs) r → Then w b (St p xs) r
  jump_paid-meets p q target h b xs r m f own le = record { meets = pays t.memory t.cog t.table t.hand c p q (length g.stack) g.marks (bodies.jumps target) h xs own f (r f (record own { statement = t.hand })) (m f own le) }

  pub at-end : {p q : ℕ} (b : ℕ) (xs : List ℕ) (r : Rest) → p ≡ q → Then w b (St q xs) r → Then w b (St p xs) r
  at-end b xs r is m f own le = subst (λ (place : ℕ). K w f own (Finish (St place xs own)) r) (sym is) (m f own le)

  pub end-meets : (p end : ℕ) → bodies.EndAt t p end → (b : ℕ) (xs : List ℕ) (r : Rest) → Then w b (St end xs) r → Then w b (St p xs) r
  end-meets p end (inl is) b xs r m = at-end b xs r is m
  end-meets p end (inr h) b xs r m = jump-meets p h.0 end h.1 b xs r m

  pub next-meets : (inner : Inner) (p q : ℕ) → bodies.NextAt t inner p q → (b : ℕ) (xs : List ℕ) (next quit : Rest) → IsAround inner b xs next quit → Then w b (St p xs) next
  next-meets outside p q h b xs next quit around = absurd h
  next-meets (plain nx qt) p q h b xs next quit around = jump_paid-meets p q nx h b xs next around.0
  next-meets (with_count nx qt) p q h b xs next quit around = jump_paid-meets p q nx h b xs next around.4

  pub drop-meets : (p q : ℕ) → At t p (takes_one 0 drops) q → (b : ℕ) (xs : List ℕ) → Fine b xs → length xs ≤ room w → (value : ℕ) (r : Rest) → Then w b (St q xs) r → Then w b (St p (xs ++ value ∷ [])) r
  drop-meets p q h b xs here fits value r m f own le =
      by-one t.memory t.cog t.table t.hand c p q (length g.stack) g.marks xs own here.low.low f r 0 drops h value (omega (arith, fits, fits_stack w)) (m f own le)

  pub quit-meets : (inner : Inner) (p q : ℕ) → bodies.QuitAt t inner p q → (b : ℕ) (xs : List ℕ) → Fine b xs → length xs ≤ room w → (next quit : Rest) → IsAround inner b xs next quit → Then w b (St p xs) quit
  quit-meets outside p q h b xs here fits next quit around = absurd h
  quit-meets (plain nx qt) p q h b xs here fits next quit around = jump-meets p q qt h b xs quit around.1
  quit-meets (with_count nx qt) p q h b xs here fits next quit around = λ f own le.
      subst (λ (ys : List ℕ). K w f own (Finish (St p ys own)) quit) (sym around.2)
      (drop-meets p h.0 h.1 b around.1 around.3 (omega (arith, fits, ap length around.2, length-append around.1 (around.0 ∷ []))) around.0 quit (jump-meets h.0 q qt h.2 b around.1 quit around.5) f own le)

  -- ---- expressions alone

  unused-back : (q : ℕ) (xs : List ℕ) (b : ℕ) (stops : Bool) (r : Rest) → Then w b (St q xs) r →
      (hand : Place) (f : ℕ) (own : Registers) → f ≤ b → (returned : Returned) (given : Option ℕ) (st : SpinState) → Above c.par xs g.marks own st → GivesBack returned st given →
      F t.memory t.cog t.table hand f own (calling.goes_back given (called c q (length g.stack) (length xs) (length g.marks) true stops) c.calls st) (for_statement t.hand r)
  unused-back q xs b stops r m hand f own le returned given st above is =
      back-unused t.memory t.cog t.table hand c q (length g.stack) xs g.marks stops f own given st (for_statement t.hand r) above (goes-back (engine_of t.memory t.cog) (λ s place. Contains t.table (s.at, place)) t.hand r hand (m f own le))

  pub act-meets : (e : Tree) (p q : ℕ) → bodies.ActAt t e p q → height e ≤ 64 → (b : ℕ) (xs : List ℕ) → Fine b xs → length xs + act_depth e ≤ room w → (k : Rest) → Then w b (St q xs) k → Then w b (St p xs) (expressions.acts callee (s w) abort e k)
  act-meets (node place (Var (Named name no_index inside))) p q h low b xs here fits k m =
      let high : length g.marks ≤ marked w = omega (arith, few_marks) in
      let does : Rest → Rest = λ go. expressions.calls_own callee (s w) abort false (t.file.kind t.method name) [] (λ x. go) in
      backs w b (St p xs) (λ back. does (back k)) (
      let go : Rest = for_statement t.hand k in
      opens-meets w p h.0 (length g.stack) g.marks xs true false h.1 (omega (arith, high, fits_marks w)) b (does go)
      (λ f own le. subst (λ (ys : List ℕ). K w f own (Finish (at c h.0 (length xs) (mark_of w (length g.stack) true false ∷ g.marks) ys own)) (does go)) (append-nil xs)
      (own-meets w q (length g.stack) g.marks xs b here (omega (arith, fits)) high true false (λ x. go) (unused-back q xs b false k m) h.0 (t.file.kind t.method name) [] h.2 f own le)))
  act-meets (node place (Call stops None i name inside arguments)) p q h low b xs here fits k m =
      let high : length g.marks ≤ marked w = omega (arith, few_marks) in
      let does : Rest → Rest = λ go. expressions.makes_call callee (s w) abort stops None name (expressions.evaluates_all callee (s w) abort arguments) (expressions.indexes callee (s w) abort i) (λ x. go) in
      backs w b (St p xs) (λ back. does (back k)) (
      let go : Rest = for_statement t.hand k in
      opens-meets w p h.0 (length g.stack) g.marks xs true stops h.2 (omega (arith, high, fits_marks w)) b (does go)
      (values-meets w arguments h.0 h.1 h.3 b (length xs) (mark_of w (length g.stack) true stops ∷ g.marks) xs (record { low = opened-low here.low (mark_of w (length g.stack) true stops); within = here.within }) (omega (arith, fits)) (omega (arith, low, few_marks)) (λ values. expressions.calls_own callee (s w) abort stops (t.file.kind t.method name) values (λ x. go))
      (λ values is. own-meets w q (length g.stack) g.marks xs b here (omega (arith, fits)) high true stops (λ x. go) (unused-back q xs b stops k m) h.1 (t.file.kind t.method name) values
      (subst (λ n. standing.OwnCallAt t (t.file.kind t.method name) n h.1 q) (sym is) h.4))))
  act-meets (node place (Call stops (Some object) i name inside arguments)) p q h low b xs here fits k m =
      let high : length g.marks ≤ marked w = omega (arith, few_marks) in
      let mark : CallMark = mark_of w (length g.stack) true stops in
      let under : Stands w b (length xs) (mark ∷ g.marks) xs = record { low = opened-low here.low mark; within = here.within } in
      let does : Rest → Rest = λ go. expressions.makes_call callee (s w) abort stops (Some object) name (expressions.evaluates_all callee (s w) abort arguments) (expressions.indexes callee (s w) abort i) (λ x. go) in
      backs w b (St p xs) (λ back. does (back k)) (
      let go : Rest = for_statement t.hand k in
      opens-meets w p h.0 (length g.stack) g.marks xs true stops h.3 (omega (arith, high, fits_marks w)) b (does go)
      (values-meets w arguments h.0 h.1 h.4 b (length xs) (mark ∷ g.marks) xs under (omega (arith, fits)) (omega (arith, low, few_marks))
      (λ values. expressions.indexes callee (s w) abort i (λ chosen. expressions.calls_of_object callee (s w) abort stops (t.file.kind t.method object) chosen name values (λ x. go)))
      (λ values is. index-meets w i h.1 h.2 h.5 b (length xs) (mark ∷ g.marks) (xs ++ values) (up_all w under values) (omega (arith, fits, is, length-append xs values)) (omega (arith, low, few_marks))
      (λ chosen. expressions.calls_of_object callee (s w) abort stops (t.file.kind t.method object) chosen name values (λ x. go))
      (λ names named. object-meets w q (length g.stack) g.marks xs b here (omega (arith, fits)) high true stops (λ x. go) (unused-back q xs b stops k m)
      object name values (omega (arith, fits, is, length-append xs values, fits_stack w)) h.2 i names named (t.file.kind t.method object) refl (subst (λ count. standing.ObjectCallAt t (t.file.kind t.method object) i name count h.2 q) (sym is) h.6)))))
  act-meets (node place (Change v change)) p q h low b xs here fits k m =
      names-meets w v p h.0 h.1 b (length g.stack) g.marks xs here (omega (arith, fits)) (omega (arith, low, few_marks)) (λ where_is. changes_alone (s w) change where_is k)
      (λ names is. change_alone-meets w h.0 q (length g.stack) g.marks xs here.low.low b (omega (arith, fits, fits_stack w)) v h.2 change h.3 names is k m)
  act-meets (node place (Assign v operator e)) p q h low b xs here fits k m =
      evaluates-meets w e p h.0 h.2 b (length g.stack) g.marks xs here (omega (arith, fits)) (omega (arith, low, few_marks)) (λ right. expressions.locates callee (s w) abort v (λ where_is. assigns (s w) operator where_is right (λ x. k)))
      (λ right. names-meets w v h.0 h.1 h.3 b (length g.stack) g.marks (xs ++ right ∷ []) (up w here right) (omega (arith, fits, longer w xs right)) (omega (arith, low, few_marks)) (λ where_is. assigns (s w) operator where_is right (λ x. k))
      (λ names is. assign-meets w h.1 q (length g.stack) g.marks xs here.low.low b false (omega (arith, fits, fits_stack w)) v h.4 operator h.5 right names is (λ x. k) (λ x. m)))
  act-meets (node place (Var (Named name (index e) inside))) p q h low b xs here fits k m = absurd h
  act-meets (node place (Var (Part name size i inside))) p q h low b xs here fits k m = absurd h
  act-meets (node place (Var (Memory size e i inside))) p q h low b xs here fits k m = absurd h
  act-meets (node place (Var (Register register x inside))) p q h low b xs here fits k m = absurd h
  act-meets (node place (Number n)) p q h low b xs here fits k m = absurd h
  act-meets (node place (Str text)) p q h low b xs here fits k m = absurd h
  act-meets (node place (Strings es)) p q h low b xs here fits k m = absurd h
  act-meets (node place Here) p q h low b xs here fits k m = absurd h
  act-meets (node place (Unary operator e)) p q h low b xs here fits k m = absurd h
  act-meets (node place (Binary operator e d)) p q h low b xs here fits k m = absurd h
  act-meets (node place (Address v)) p q h low b xs here fits k m = absurd h
  act-meets (node place (ObjectAddress e)) p q h low b xs here fits k m = absurd h
  act-meets (node place (ObjConst object name inside)) p q h low b xs here fits k m = absurd h
  act-meets (node place (Built code arguments)) p q h low b xs here fits k m =
      built-meets w false code arguments p q h b (length g.stack) g.marks xs here (omega (arith, fits)) (omega (arith, low, few_marks)) (λ value. k) (λ value. m)
  act-meets (node place (Look code e items)) p q h low b xs here fits k m = absurd h

  -- ---- tests

  pub value-meets : (e : Tree) (p q : ℕ) → standing.ValueAt t e p q → height e ≤ 64 → (b : ℕ) (xs : List ℕ) → Fine b xs → length xs + depth e ≤ room w → (k : ℕ → Rest) → ((value : ℕ) → Then w b (St q (xs ++ value ∷ [])) (k value)) → Then w b (St p xs) (expressions.evaluates callee (s w) abort e k)
  value-meets e p q h low b xs here fits k m = evaluates-meets w e p q h b (length g.stack) g.marks xs here fits (omega (arith, low, few_marks)) k m

  finish-if : (so : Bool) (f : ℕ) (own : Registers) (x y : SpinState) (r u : Rest) → K w f own (Finish x) r → K w f own (Finish y) u → K w f own (Finish (if so then x else y)) (if so then r else u)
  finish-if true f own x y r u m n = m
  finish-if false f own x y r u m n = n

  module _ (most_passes : ℕ) (return : Returned → Rest) where
    pub decides-meets : (negated : Bool) (e : Tree) (p p1 p2 q : ℕ) → standing.ValueAt t e p p1 → At t p1 (takes_one 0 (bodies.jumps_unless negated q)) p2 → height e ≤ 64 → (b : ℕ) (xs : List ℕ) → Fine b xs → length xs + depth e ≤ room w → (met unmet : Rest) → Then w b (St p2 xs) met → Then w b (St q xs) unmet →
        Then w b (St p xs) (statements.decides most_passes callee (s w) return abort negated e met unmet)
    decides-meets negated e p p1 p2 q h jump low b xs here fits met unmet m n =
        value-meets e p p1 h low b xs here (omega (arith, fits)) (λ value. if holds negated value then met else unmet)
        (λ value f own le. by-one t.memory t.cog t.table t.hand c p1 p2 (length g.stack) g.marks xs own here.low.low f (if holds negated value then met else unmet) 0 (bodies.jumps_unless negated q) jump value (omega (arith, fits, fits_stack w))
        (finish-if (holds negated value) f own (St p2 xs own) (St q xs own) met unmet (m f own le) (n f own le)))

    -- the value of a CASE lies on the stack
    pushed-if : (so : Bool) (f : ℕ) (own : Registers) (a q v : ℕ) (xs : List ℕ) (r u : Rest) → K w f own (Finish (St a (xs ++ v ∷ []) own)) r → K w f own (Finish (St q (xs ++ v ∷ []) own)) u → K w f own (Finish (pushed v (goes_if so a (St q xs own)))) (if so then r else u)
    pushed-if true f own a q v xs r u m n = m
    pushed-if false f own a q v xs r u m n = n

    fit-meets : (v : ℕ) (x : Item) (a p q : ℕ) → bodies.FitAt t x a p q → IsProperTest x → (b : ℕ) (xs : List ℕ) → Fine b xs → length xs + 1 + item_depth x ≤ room w → (met unmet : Rest) → Then w b (St a (xs ++ v ∷ [])) met → Then w b (St q (xs ++ v ∷ [])) unmet →
        Then w b (St p (xs ++ v ∷ [])) (statements.fits most_passes callee (s w) return abort v x met unmet)
    fit-meets v (single e) a p q h proper b xs here fits met unmet m n =
        value-meets e p h.0 h.1 proper.1 b (xs ++ v ∷ []) (up w here v) (omega (arith, fits, longer w xs v)) (λ x. if v == x then met else unmet)
        (λ x f own le. by-two t.memory t.cog t.table t.hand c h.0 q (length g.stack) g.marks xs own here.low.low f (if v == x then met else unmet) 1 (bodies.fits_value a) h.2 v x (omega (arith, fits, fits_stack w))
        (pushed-if (v == x) f own a q v xs met unmet (m f own le) (n f own le)))
    fit-meets v (range e d) a p q h proper b xs here fits met unmet m n =
        value-meets e p h.0 h.2 proper.0.1 b (xs ++ v ∷ []) (up w here v) (omega (arith, fits, longer w xs v)) (λ low. expressions.evaluates callee (s w) abort d (λ high. if is_between v low high then met else unmet))
        (λ low. value-meets d h.0 h.1 h.3 proper.1.1 b ((xs ++ v ∷ []) ++ low ∷ []) (up w (up w here v) low) (omega (arith, fits, longer w xs v, longer w (xs ++ v ∷ []) low)) (λ high. if is_between v low high then met else unmet)
        (λ high f own le. by-three t.memory t.cog t.table t.hand c h.1 q (length g.stack) g.marks xs own here.low.low f (if is_between v low high then met else unmet) 1 (bodies.fits_range a) h.4 v low high (omega (arith, fits, fits_stack w))
        (pushed-if (is_between v low high) f own a q v xs met unmet (m f own le) (n f own le))))

    pub fits-meets : (v : ℕ) (items : Items) (a p q : ℕ) → bodies.FitsAt t items a p q → AreProperTests items → (b : ℕ) (xs : List ℕ) → Fine b xs → length xs + 1 + items_depth items ≤ room w → (met unmet : Rest) → Then w b (St a (xs ++ v ∷ [])) met → Then w b (St q (xs ++ v ∷ [])) unmet →
        Then w b (St p (xs ++ v ∷ [])) (statements.fits_one most_passes callee (s w) return abort v items met unmet)
    fits-meets v no_items a p q h proper b xs here fits met unmet m n = at-end b (xs ++ v ∷ []) unmet h n
    fits-meets v (items ▸ item) a p q h proper b xs here fits met unmet m n =
        fits-meets v items a p h.0 h.1 proper.0 b xs here (omega (arith, fits)) met (statements.fits most_passes callee (s w) return abort v item met unmet) m
        (fit-meets v item a h.0 q h.2 proper.1 b xs here (omega (arith, fits)) met unmet m n)

    -- ---- loops

    again-paid : (state : Registers → SpinState) (r : Rest) (b : ℕ) → ((f : ℕ) (own : Registers) → suc f ≤ b → K w f own (Finish (state own)) r) → Paid b state (costs r)
    again-paid state r b m zero own le = meets-untold (E w) (state own)
    again-paid state r b m (suc f) own le = (m f own le).meets

    passes-meet : (state : Registers → SpinState) (pass : Rest → Rest) (b : ℕ) → ((again : Rest) (d : ℕ) → d ≤ b → Paid d state again → Then w d state (pass again)) → (n : ℕ) (f : ℕ) (own : Registers) → f < n → f ≤ b → K w f own (Finish (state own)) (passes n pass)
    passes-meet state pass b m zero f own lt le = absurd (omega (arith, lt))
    passes-meet state pass b m (suc n) f own lt le =
        record {
          meets = (m (costs (passes n pass)) f le
              (again-paid state (passes n pass) f (λ d o within. passes-meet state pass b m n d o (omega (arith, lt, within)) (omega (arith, le, within)))) f own (omega arith)).meets;
        }

    not_zero : (n : ℕ) → (suc n == 0) ≡ false
    not_zero n = ne_eqb (suc n) 0 (omega arith)

    one_less : (more n : ℕ) → difference n 1 ≡ suc more → difference (suc more) 1 ≡ more
    one_less more n is = omega (arith, is)

    -- the end of a pass of a loop with a count
    last-meets : (p2 p3 q : ℕ) → At t p3 (takes_one 1 (bodies.ends_loop p2)) q → (b : ℕ) (xs : List ℕ) → Fine b xs → length xs + 1 ≤ 16384 → (n : ℕ) → difference n 1 ≡ 0 → (k : Rest) → Then w b (St q xs) k → Then w b (St p3 (xs ++ n ∷ [])) k
    last-meets p2 p3 q h b xs here fits n is k m f own le =
        by-one t.memory t.cog t.table t.hand c p3 q (length g.stack) g.marks xs own here.low.low f k 1 (bodies.ends_loop p2) h n fits
        (subst (λ (more : ℕ). K w f own (Finish (if more == 0 then St q xs own else St p2 (xs ++ more ∷ []) own)) k) (sym is) (m f own le))

    more-meets : (p2 p3 q : ℕ) → At t p3 (takes_one 1 (bodies.ends_loop p2)) q → (b : ℕ) (xs : List ℕ) → Fine b xs → length xs + 1 ≤ 16384 → (n more : ℕ) → difference n 1 ≡ suc more → (r : Rest) → ((f : ℕ) (own : Registers) → suc f ≤ b → K w f own (Finish (St p2 (xs ++ suc more ∷ []) own)) r) → Then w b (St p3 (xs ++ n ∷ [])) (costs r)
    more-meets p2 p3 q h b xs here fits n more is r m zero own le = record { meets = meets-untold (E w) (St p3 (xs ++ n ∷ []) own) }
    more-meets p2 p3 q h b xs here fits n more is r m (suc f) own le = record {
      meets =
          pays t.memory t.cog t.table t.hand c p3 q (length g.stack) g.marks (takes_one 1 (bodies.ends_loop p2)) h (xs ++ n ∷ []) own (suc f) (r f (record own { statement = t.hand }))
          (subst (λ (d : Course SpinState). M t.memory t.cog t.table t.hand f d (r f (record own { statement = t.hand }))) (sym (one-is (St q (xs ++ n ∷ []) own) xs n 1 (bodies.ends_loop p2) (refl, here.low.low, fits)
          ∙ ap (λ (left : ℕ). Finish (if left == 0 then St q xs own else St p2 (xs ++ left ∷ []) own)) is
          ∙ ap (λ (so : Bool). Finish (if so then St q xs own else St p2 (xs ++ suc more ∷ []) own)) (not_zero more))) (m f own le).meets);
    }

    counted-meet : (p2 p3 q : ℕ) → At t p3 (takes_one 1 (bodies.ends_loop p2)) q → (b : ℕ) (xs : List ℕ) → Fine b xs → length xs + 1 ≤ 16384 → (pass : Rest → Rest) (k : Rest) →
        ((n : ℕ) (again : Rest) (d : ℕ) → d ≤ b → Then w d (St p3 (xs ++ n ∷ [])) again → Then w d (St p2 (xs ++ n ∷ [])) (pass again)) → Then w b (St q xs) k → (more n : ℕ) → difference n 1 ≡ more → Then w b (St p2 (xs ++ n ∷ [])) (counted more pass k)
    counted-meet p2 p3 q h b xs here fits pass k m end zero n is f own le =
        record { meets = (m n k f le (lesser_bound k le (last-meets p2 p3 q h b xs here fits n is k end)) f own (omega arith)).meets }
    counted-meet p2 p3 q h b xs here fits pass k m end (suc more) n is f own le =
        record {
          meets = (m n (costs (counted more pass k)) f le
              (more-meets p2 p3 q h f xs (record { low = here.low; within = omega (arith, le, here.within) }) fits n more is (counted more pass k)
              (λ d o within. counted-meet p2 p3 q h b xs here fits pass k m end more (suc more) (one_less more n is) d o (omega (arith, le, within)))) f own (omega arith)).meets;
        }

    -- ---- the end of a pass of REPEAT with FROM and TO

    -- ---- the end of a pass of REPEAT with FROM and TO

    module _ (name : List ℕ) (place : Place) (target q b : ℕ) (xs : List ℕ) (here : Fine b xs) (fits : length xs + 0 ≤ 16384) (again k : Rest) (jumps : Paid b (St target xs) again) (goes_on : Then w b (St q xs) k) where
      abbrev v : Variable
      v = Named name no_index place

      abbrev counter : Location
      counter = named (s w) name 0

      step-writes : (so : Bool) (value f : ℕ) (own : Registers) → f ≤ b → Follows (E w) (less f) f own (places.writes_place (place_of counter) value None (if so then St target xs own else St q xs own)) (stores counter value (if so then again else k))
      step-writes true value f own le = follows-write (E w) c target (length g.stack) g.marks xs counter tt value None (less f) f own again (λ o. record { meets = jumps f o le })
      step-writes false value f own le = follows-write (E w) c q (length g.stack) g.marks xs counter tt value None (less f) f own k (λ o. record { meets = paid b (St q xs) k goes_on f o le })

      steps-follow : (by from to f : ℕ) (own : Registers) → f ≤ b → Follows (E w) (less f) f own (places.reads_place (wanted_case.Stepped by from to target) (place_of counter) (St q xs own)) (statements.steps most_passes callee (s w) return abort counter by from to again k)
      unfolding places.uses
      steps-follow by from to f own le =
          follows-read (E w) c q (length g.stack) g.marks xs (s w) refl (wanted_case.Stepped by from to target) counter tt (less f) f own (λ old. stores counter (stepped old by from to) (if is_between (stepped old by from to) from to then again else k))
          (λ old. step-writes (is_between (stepped old by from to) from to) (stepped old by from to) f own le)

      pass_ends-meet : (from to : Tree) (step : Option Tree) (p : ℕ) → bodies.PassEndAt t v from to step target p q → height from ≤ 64 → height to ≤ 64 → IfThere (IsProperExpression false) step → length xs + ends_depth from to step ≤ room w → Then w b (St p xs) (statements.ends_pass most_passes callee (s w) return abort counter from to step again k)
      pass_ends-meet from to None p h low high proper deep =
          value-meets from p h.0 h.2 low b xs here (omega (arith, deep)) (λ x. expressions.evaluates callee (s w) abort to (λ y. statements.steps most_passes callee (s w) return abort counter 1 x y again k))
          (λ x. value-meets to h.0 h.1 h.3 high b (xs ++ x ∷ []) (up w here x) (omega (arith, deep, longer w xs x)) (λ y. statements.steps most_passes callee (s w) return abort counter 1 x y again k)
          (λ y f own le. record {
            meets =
                pays t.memory t.cog t.table t.hand c h.1 q (length g.stack) g.marks (takes_two 0 (bodies.steps_by_one t v target)) h.4 ((xs ++ x ∷ []) ++ y ∷ []) own f _
                (subst (λ (d : Course SpinState). M t.memory t.cog t.table t.hand (less f) d (statements.steps most_passes callee (s w) return abort counter 1 x y again k f (record own { statement = t.hand }))) (sym (two-is (St q ((xs ++ x ∷ []) ++ y ∷ []) own) xs x y 0 (bodies.steps_by_one t v target) (append_assoc xs (x ∷ []) (y ∷ []), here.low.low, fits)))
                (steps-follow 1 x y f own le).meets);
          }))
      pass_ends-meet from to (Some e) p h low high proper deep =
          value-meets e p h.0 h.3 proper.1 b xs here (omega (arith, deep)) (λ by. expressions.evaluates callee (s w) abort from (λ x. expressions.evaluates callee (s w) abort to (λ y. statements.steps most_passes callee (s w) return abort counter by x y again k)))
          (λ by. value-meets from h.0 h.1 h.4 low b (xs ++ by ∷ []) (up w here by) (omega (arith, deep, longer w xs by)) (λ x. expressions.evaluates callee (s w) abort to (λ y. statements.steps most_passes callee (s w) return abort counter by x y again k))
          (λ x. value-meets to h.1 h.2 h.5 high b ((xs ++ by ∷ []) ++ x ∷ []) (up w (up w here by) x) (omega (arith, deep, longer w xs by, longer w (xs ++ by ∷ []) x)) (λ y. statements.steps most_passes callee (s w) return abort counter by x y again k)
          (λ y f own le. record {
            meets =
                pays t.memory t.cog t.table t.hand c h.2 q (length g.stack) g.marks (takes_three 0 (bodies.steps_by t v target)) h.6 (((xs ++ by ∷ []) ++ x ∷ []) ++ y ∷ []) own f _
                (subst (λ (d : Course SpinState). M t.memory t.cog t.table t.hand (less f) d (statements.steps most_passes callee (s w) return abort counter by x y again k f (record own { statement = t.hand })))
                (sym (three-is (St q (((xs ++ by ∷ []) ++ x ∷ []) ++ y ∷ []) own) xs by x y 0 (bodies.steps_by t v target) (append_assoc (xs ++ by ∷ []) (x ∷ []) (y ∷ []) ∙ append_assoc xs (by ∷ []) (x ∷ y ∷ []), here.low.low, fits)))
                (steps-follow by x y f own le).meets);
          })))

    -- ---- loops

    m-if : (so : Bool) (count f : ℕ) (own : Registers) (x y : SpinState) (r u : Rest) → M t.memory t.cog t.table t.hand count (Finish x) (r f (record own { statement = t.hand })) → M t.memory t.cog t.table t.hand count (Finish y) (u f (record own { statement = t.hand })) → M t.memory t.cog t.table t.hand count (Finish (if so then x else y)) ((if so then r else u) f (record own { statement = t.hand }))
    m-if true count f own x y r u m n = m
    m-if false count f own x y r u m n = n

    -- the test of a loop after its body
    tail-meets : (until : Bool) (e : Tree) (target p p1 q : ℕ) → standing.ValueAt t e p p1 → At t p1 (takes_one 0 (bodies.jumps_where until target)) q → height e ≤ 64 → (b : ℕ) (xs : List ℕ) → Fine b xs → length xs + depth e ≤ room w → (again k : Rest) → Paid b (St target xs) again → Then w b (St q xs) k →
        Then w b (St p xs) (statements.decides most_passes callee (s w) return abort until e again k)
    tail-meets until e target p p1 q h jump low b xs here fits again k jumps m =
        value-meets e p p1 h low b xs here (omega (arith, fits)) (λ value. if holds until value then again else k)
        (λ value f own le. record {
          meets = pays t.memory t.cog t.table t.hand c p1 q (length g.stack) g.marks (takes_one 0 (bodies.jumps_where until target)) jump (xs ++ value ∷ []) own f ((if holds until value then again else k) f (record own { statement = t.hand }))
              (subst (λ (d : Course SpinState). M t.memory t.cog t.table t.hand (less f) d ((if holds until value then again else k) f (record own { statement = t.hand }))) (sym (one-is (St q (xs ++ value ∷ []) own) xs value 0 (bodies.jumps_where until target) (refl, here.low.low, omega (arith, fits, fits_stack w))))
              (m-if (holds until value) (less f) f own (St target xs own) (St q xs own) again k (jumps f own le) (paid b (St q xs) k m f own le)));
        })

    module _ (enough : top < most_passes) where
      -- a body, by where it stands
      abbrev Executes : (Inner → (p q : ℕ) → Type 0) → (deep : ℕ) → statements.Body → Type 0
      Executes Body deep body = (inner : Inner) (p q : ℕ) → Body inner p q → (b : ℕ) (xs : List ℕ) → Fine b xs → length xs + deep ≤ room w → (next quit k : Rest) → IsAround inner b xs next quit → Then w b (St q xs) k → Then w b (St p xs) (body next quit k)

      below : {b d : ℕ} {xs : List ℕ} → d ≤ b → Fine b xs → Fine d xs
      below le here = record { low = here.low; within = omega (arith, le, here.within) }

      pub repeats-meet : (loop : Loop) (Body : Inner → (p q : ℕ) → Type 0) (deep : ℕ) (body : statements.Body) → Executes Body deep body → (p q : ℕ) → bodies.LoopAt t loop Body p q → IsProperCourse loop → (b : ℕ) (xs : List ℕ) → Fine b xs → length xs + max (course_depth loop) (held_by loop + deep) ≤ room w → (k : Rest) → Then w b (St q xs) k →
          Then w b (St p xs) (statements.repeats most_passes callee (s w) return abort loop body k)
      repeats-meet Forever Body deep body executes p q h proper b xs here fits k m = λ f own le.
          passes-meet (St p xs) (λ again. body again k again) b
          (λ again d within jump. executes (plain p q) p h.0 h.1 d xs (below within here) (omega (arith, fits)) again k again (jump, lesser_bound k within m) (jump_paid-meets h.0 q p h.2 d xs again jump))
          most_passes f own (omega (arith, le, here.within, enough)) le
      repeats-meet (Count e) Body deep body executes p q h proper b xs here fits k m =
          let rest : ℕ → Rest = λ n. counted (difference n 1) (λ again. body again k again) k in
          value-meets e p h.0 h.3 proper.1 b xs here (omega (arith, fits)) (λ n. if n == 0 then k else rest n)
          (λ n f own le. by-course t.memory t.cog t.table t.hand c h.0 h.1 (length g.stack) g.marks (bodies.begins_loop q) h.4 (xs ++ n ∷ []) own f (if n == 0 then k else rest n) (Finish (if n == 0 then St q xs own else St h.1 (xs ++ n ∷ []) own))
          (one-is (St h.1 (xs ++ n ∷ []) own) xs n 1 (λ a st. Finish (if a == 0 then goes_to q st else St h.1 (xs ++ n ∷ []) own)) (refl, here.low.low, omega (arith, fits, fits_stack w)))
          (finish-if (n == 0) f own (St q xs own) (St h.1 (xs ++ n ∷ []) own) k (rest n) (m f own le)
          (counted-meet h.1 h.2 q h.6 b xs here (omega (arith, fits, fits_stack w)) (λ again. body again k again) k
          (λ x again d within end. executes (with_count h.2 q) h.1 h.2 h.5 d (xs ++ x ∷ []) (up w (below within here) x) (omega (arith, fits, longer w xs x)) again k again
          (x, xs, refl, below within here, paid d (St h.2 (xs ++ x ∷ [])) again end, lesser_bound k within m) end)
          m (difference n 1) n refl f own le)))
      repeats-meet (Before until e) Body deep body executes p q h proper b xs here fits k m = λ f own le.
          passes-meet (St p xs) (λ again. statements.decides most_passes callee (s w) return abort until e (body again k again) k) b
          (λ again d within jump. decides-meets until e p h.0 h.1 q h.3 h.4 proper.1 d xs (below within here) (omega (arith, fits)) (body again k again) k
          (executes (plain p q) h.1 h.2 h.5 d xs (below within here) (omega (arith, fits)) again k again (jump, lesser_bound k within m) (jump_paid-meets h.2 q p h.6 d xs again jump)) (lesser_bound k within m))
          most_passes f own (omega (arith, le, here.within, enough)) le
      repeats-meet (After until e) Body deep body executes p q h proper b xs here fits k m = λ f own le.
          passes-meet (St p xs) (λ again. body (statements.decides most_passes callee (s w) return abort until e again k) k (statements.decides most_passes callee (s w) return abort until e again k)) b
          (λ again d within jump.
          let tail : Rest = statements.decides most_passes callee (s w) return abort until e again k in
          let ends : Then w d (St h.0 xs) tail = tail-meets until e p h.0 h.1 q h.3 h.4 proper.1 d xs (below within here) (omega (arith, fits)) again k jump (lesser_bound k within m) in
          executes (plain h.0 q) p h.0 h.2 d xs (below within here) (omega (arith, fits)) tail k tail (paid d (St h.0 xs) tail ends, lesser_bound k within m) ends)
          most_passes f own (omega (arith, le, here.within, enough)) le
      repeats-meet (From name from to step place) Body deep body executes p q h proper b xs here fits k m =
          let counter : Location = named (s w) name 0 in
          let tail : Rest → Rest = λ again. statements.ends_pass most_passes callee (s w) return abort counter from to step again k in
          let pass : Rest → Rest = λ again. body (tail again) k (tail again) in
          value-meets from p h.0 h.3 proper.1.1 b xs here (omega (arith, fits)) (λ first. stores counter first (passes most_passes pass))
          (λ first f own le. subst (λ (ys : List ℕ). K w f own (Finish (St h.0 ys own)) (stores counter first (passes most_passes pass))) (append-nil (xs ++ first ∷ []))
          (assign-meets w h.0 h.1 (length g.stack) g.marks xs here.low.low b false (omega (arith, fits, fits_stack w)) (Named name no_index place) tt None h.4 first [] refl (λ x. passes most_passes pass)
          (λ x f own le. passes-meet (St h.1 xs) pass b
          (λ again d within jump.
          let ends : Then w d (St h.2 xs) (tail again) = pass_ends-meet name place h.1 q d xs (below within here) (omega (arith, fits, fits_stack w)) again k jump (lesser_bound k within m) from to step h.2 h.6 proper.1.1 proper.2.1 proper.3 (omega (arith, fits)) in
          executes (plain h.2 q) h.1 h.2 h.5 d xs (below within here) (omega (arith, fits)) (tail again) k (tail again) (paid d (St h.2 xs) (tail again) ends, lesser_bound k within m) ends)
          most_passes f own (omega (arith, le, here.within, enough)) le)
          f own le))

      -- ---- statements

      -- a return of the method, by what follows it
      module _ (returns : Returns t.memory t.cog t.table top c.calls c.par g.stack g.marks return) where
        above-is : {b : ℕ} {xs : List ℕ} → Fine b xs → (values : List ℕ) (q : ℕ) (own : Registers) → Above c.par g.stack g.marks own (St q (xs ++ values) own)
        above-is {xs = xs} here values q own = record {
          owns = record { par = refl; outa = refl; outb = refl; dira = refl; dirb = refl };
          values = here.low.values ++ values;
          stacked = ap (λ (ys : List ℕ). ys ++ values) here.low.stacked ∙ append_assoc g.stack here.low.values values;
          opened = [];
          marked = refl;
        }

        above-none : {b : ℕ} {xs : List ℕ} → Fine b xs → (q : ℕ) (own : Registers) → Above c.par g.stack g.marks own (St q xs own)
        above-none {xs = xs} here q own = record {
          owns = record { par = refl; outa = refl; outb = refl; dira = refl; dirb = refl };
          values = here.low.values;
          stacked = here.low.stacked;
          opened = [];
          marked = refl;
        }

        pub return_result-meets : (p q : ℕ) → At t p (calling.return_result t.cog) q → (b : ℕ) (xs : List ℕ) → Fine b xs → Then w b (St p xs) (return (Result (s w).frame))
        unfolding calling.return_result
        return_result-meets p q h b xs here f own le =
            by t.memory t.cog t.table t.hand c p q (length g.stack) g.marks (calling.return_result t.cog) h xs own f (return (Result (s w).frame))
            (returns.by t.hand f own (omega (arith, le, here.within)) (Result (s w).frame) None (St q xs own) (above-none here q own) (refl, refl))

        pub return_value-meets : (p q : ℕ) → At t p (calling.return_value t.cog) q → (b : ℕ) (xs : List ℕ) → Fine b xs → length xs + 1 ≤ 16384 → (value : ℕ) → Then w b (St p (xs ++ value ∷ [])) (return (Value value))
        unfolding calling.return_value
        return_value-meets p q h b xs here fits value f own le =
            by-course t.memory t.cog t.table t.hand c p q (length g.stack) g.marks (calling.return_value t.cog) h (xs ++ value ∷ []) own f (return (Value value)) (calling.returns t.cog (Some value) c.calls (St q (xs ++ value ∷ []) own))
            (one-is (St q (xs ++ value ∷ []) own) xs value 0 (λ a st. calling.returns t.cog (Some a) c.calls (St q (xs ++ value ∷ []) own)) (refl, here.low.low, omega (arith, fits)))
            (returns.by t.hand f own (omega (arith, le, here.within)) (Value value) (Some value) (St q (xs ++ value ∷ []) own) (above-is here (value ∷ []) q own) refl)

        pub abort_result-meets : (p q : ℕ) → At t p (calling.abort_result t.cog) q → (b : ℕ) (xs : List ℕ) → Fine b xs → Then w b (St p xs) (abort (Result (s w).frame))
        unfolding calling.abort_result
        abort_result-meets p q h b xs here f own le =
            by t.memory t.cog t.table t.hand c p q (length g.stack) g.marks (calling.abort_result t.cog) h xs own f (abort (Result (s w).frame))
            (aborts.by t.hand f own (omega (arith, le, here.within)) (Result (s w).frame) None (St q xs own) (above-none here q own) (refl, refl))

        pub abort_value-meets : (p q : ℕ) → At t p (calling.abort_value t.cog) q → (b : ℕ) (xs : List ℕ) → Fine b xs → length xs + 1 ≤ 16384 → (value : ℕ) → Then w b (St p (xs ++ value ∷ [])) (abort (Value value))
        unfolding calling.abort_value
        abort_value-meets p q h b xs here fits value f own le =
            by-course t.memory t.cog t.table t.hand c p q (length g.stack) g.marks (calling.abort_value t.cog) h (xs ++ value ∷ []) own f (abort (Value value)) (calling.aborts t.cog (Some value) (trapping c.calls) (St q (xs ++ value ∷ []) own))
            (one-is (St q (xs ++ value ∷ []) own) xs value 0 (λ a st. calling.aborts t.cog (Some a) (trapping c.calls) (St q (xs ++ value ∷ []) own)) (refl, here.low.low, omega (arith, fits)))
            (aborts.by t.hand f own (omega (arith, le, here.within)) (Value value) (Some value) (St q (xs ++ value ∷ []) own) (above-is here (value ∷ []) q own) refl)

        pub done-low : (e : Tree) → IsDone e → height e ≤ 64
        done-low (node place form) proper = proper.1

        pub one_fits : (e : Tree) (xs : List ℕ) → length xs + depth e ≤ room w → length xs + 1 ≤ 16384
        one_fits e xs fits = omega (arith, fits, fits_stack w, depth-positive e)

-- ---- statements, each with itself at hand

-- a method at work on a statement
abbrev pub at_work : Working → Place → Working
at_work v hand = record v { t = with_hand v.t hand }

module _ (v : Working) (most_passes : ℕ) (return : Returned → Rest) (enough : v.top < most_passes) (returns : Returns v.t.memory v.t.cog v.t.table v.top v.c.calls v.c.par v.g.stack v.g.marks return) where
  open v use {t, c, callee, abort, g, top}

  abbrev O : Place → Working
  O hand = at_work v hand

  fine-at : (hand : Place) {b : ℕ} {xs : List ℕ} → Fine v b xs → Fine (O hand) b xs
  fine-at hand here = record { low = here.low; within = here.within }

  fine-of : (hand : Place) {b : ℕ} {xs : List ℕ} → Fine (O hand) b xs → Fine v b xs
  fine-of hand here = record { low = here.low; within = here.within }

  -- what follows for the statement around, and for the one inside it
  inside : (around hand : Place) (b p : ℕ) (xs : List ℕ) (r : Rest) → Then (O around) b (St v p xs) r → Then (O hand) b (St v p xs) (for_statement around r)
  inside around hand b p xs r m f own le = goes-back (engine_of t.memory t.cog) (λ s place. Contains t.table (s.at, place)) around r hand (m f own le)

  inside-paid : (around hand : Place) (b p : ℕ) (xs : List ℕ) (r : Rest) → Paid (O around) b (St v p xs) r → Paid (O hand) b (St v p xs) (for_statement around r)
  inside-paid around hand b p xs r m f own le = any-place (engine_of t.memory t.cog) (λ s place. Contains t.table (s.at, place)) (m f own le)

  -- a statement does its action for itself
  itself : (around hand : Place) (b p : ℕ) (xs : List ℕ) (action : statements.Body) (next quit k : Rest) → Then (O hand) b (St v p xs) (action (for_statement around next) (for_statement around quit) (for_statement around k))
      → Then (O around) b (St v p xs) (statements.for_itself hand action next quit k)
  itself around hand b p xs action next quit k m f own le = record { meets = any-place (engine_of t.memory t.cog) (λ s place. Contains t.table (s.at, place)) (m f own le).meets }

  around-for : (around hand : Place) (inner : Inner) (b : ℕ) (xs : List ℕ) (next quit : Rest) → IsAround (O around) inner b xs next quit → IsAround (O hand) inner b xs (for_statement around next) (for_statement around quit)
  around-for around hand outside b xs next quit is = tt
  around-for around hand (plain nx qt) b xs next quit is = (inside-paid around hand b nx xs next is.0, inside around hand b qt xs quit is.1)
  around-for around hand (with_count nx qt) b xs next quit is =
      (is.0, is.1, is.2, record { low = is.3.low; within = is.3.within }, inside-paid around hand b nx xs next is.4, inside around hand b qt is.1 quit is.5)

  mutual
    statement-meets : (hand : Place) (x : Statement) (inner : Inner) (p q : ℕ) → bodies.StatementAt t x inner p q → IsProperStatement x → (b : ℕ) (xs : List ℕ) → Fine v b xs → length xs + statement_depth v x ≤ room v → (next quit k : Rest) → IsAround (O hand) inner b xs next quit → Then (O hand) b (St v q xs) k →
        Then (O hand) b (St v p xs) (statements.executes most_passes callee (s v) return abort x next quit k)
    statement-meets hand (statement place action) inner p q h proper b xs here fits next quit k around m =
        itself hand place b p xs (statements.acts_out most_passes callee (s v) return abort action) next quit k
        (action-meets place action inner p q h proper b xs here fits (for_statement hand next) (for_statement hand quit) (for_statement hand k) (around-for hand place inner b xs next quit around)
        (inside hand place b q xs k m))

    action-meets : (hand : Place) (action : Action) (inner : Inner) (p q : ℕ) → bodies.StatementAt t (statement hand action) inner p q → IsProperStatement (statement hand action) → (b : ℕ) (xs : List ℕ) → Fine v b xs → length xs + statement_depth v (statement hand action) ≤ room v → (next quit k : Rest) → IsAround (O hand) inner b xs next quit → Then (O hand) b (St v q xs) k →
        Then (O hand) b (St v p xs) (statements.acts_out most_passes callee (s v) return abort action next quit k)
    action-meets hand (Do e) inner p q h proper b xs here fits next quit k around m = act-meets (O hand) e p q h (done-low (O hand) most_passes return enough returns e proper) b xs (fine-at hand here) fits k m
    action-meets hand (If arms other) inner p q h proper b xs here fits next quit k around m =
        arms-meet hand arms inner q p h.0 h.1 proper.1 b xs here (omega (arith, fits)) next quit k (statements.executes_other most_passes callee (s v) return abort other next quit k) around m
        (other-meets hand other inner h.0 q h.2 proper.2 b xs here (omega (arith, fits)) next quit k around m)
    action-meets hand (Case e arms other) inner p q h proper b xs here fits next quit k around m =
        let rest : Rest = statements.executes_other most_passes callee (s v) return abort other next quit k in
        value-meets (O hand) e p h.0 h.4 proper.0.1 b xs (fine-at hand here) (omega (arith, fits)) (λ value. statements.matches most_passes callee (s v) return abort value arms next quit k rest)
        (λ value. choices-meet hand value arms inner q h.0 h.1 h.5 proper.1 b xs here (omega (arith, fits)) next quit k rest around m
        (drop-meets (O hand) h.1 h.2 h.6 b xs (fine-at hand here) (omega (arith, fits)) value rest
        (other-meets hand other inner h.2 h.3 h.7 proper.2 b xs here (omega (arith, fits)) next quit k around (end-meets (O hand) h.3 q h.8 b xs k m))))
    action-meets hand (Repeat loop body) inner p q h proper b xs here fits next quit k around m =
        repeats-meet (O hand) most_passes return enough loop (bodies.BodyAt t body) (body_depth v body) (statements.executes_all most_passes callee (s v) return abort body)
        (λ inner p q h b xs here fits next quit k around m. body-meets hand body inner p q h proper.1 b xs (fine-of hand here) fits next quit k around m) p q h proper.0 b xs (fine-at hand here) fits k m
    action-meets hand Next inner p q h proper b xs here fits next quit k around m = next-meets (O hand) inner p q h b xs next quit around
    action-meets hand Quit inner p q h proper b xs here fits next quit k around m = quit-meets (O hand) inner p q h b xs (fine-at hand here) (omega (arith, fits)) next quit around
    action-meets hand (Return None) inner p q h proper b xs here fits next quit k around m = return_result-meets (O hand) most_passes return enough returns p q h b xs (fine-at hand here)
    action-meets hand (Return (Some e)) inner p q h proper b xs here fits next quit k around m =
        value-meets (O hand) e p h.0 h.1 proper.1 b xs (fine-at hand here) fits (λ value. return (Value value)) (λ value. return_value-meets (O hand) most_passes return enough returns h.0 q h.2 b xs (fine-at hand here) (one_fits (O hand) most_passes return enough returns e xs fits) value)
    action-meets hand (Abort None) inner p q h proper b xs here fits next quit k around m = abort_result-meets (O hand) most_passes return enough returns p q h b xs (fine-at hand here)
    action-meets hand (Abort (Some e)) inner p q h proper b xs here fits next quit k around m =
        value-meets (O hand) e p h.0 h.1 proper.1 b xs (fine-at hand here) fits (λ value. abort (Value value)) (λ value. abort_value-meets (O hand) most_passes return enough returns h.0 q h.2 b xs (fine-at hand here) (one_fits (O hand) most_passes return enough returns e xs fits) value)

    pub body-meets : (hand : Place) (body : Statements) (inner : Inner) (p q : ℕ) → bodies.BodyAt t body inner p q → AreProperStatements body → (b : ℕ) (xs : List ℕ) → Fine v b xs → length xs + body_depth v body ≤ room v → (next quit k : Rest) → IsAround (O hand) inner b xs next quit → Then (O hand) b (St v q xs) k →
        Then (O hand) b (St v p xs) (statements.executes_all most_passes callee (s v) return abort body next quit k)
    body-meets hand no_statements inner p q h proper b xs here fits next quit k around m = at-end (O hand) b xs k h m
    body-meets hand (body ▹ last) inner p q h proper b xs here fits next quit k around m =
        body-meets hand body inner p h.0 h.1 proper.0 b xs here (omega (arith, fits)) next quit (statements.executes most_passes callee (s v) return abort last next quit k) around
        (statement-meets hand last inner h.0 q h.2 proper.1 b xs here (omega (arith, fits)) next quit k around m)

    other-meets : (hand : Place) (other : Otherwise) (inner : Inner) (p q : ℕ) → bodies.OtherAt t other inner p q → IsProperOtherwise other → (b : ℕ) (xs : List ℕ) → Fine v b xs → length xs + other_depth v other ≤ room v → (next quit k : Rest) → IsAround (O hand) inner b xs next quit → Then (O hand) b (St v q xs) k →
        Then (O hand) b (St v p xs) (statements.executes_other most_passes callee (s v) return abort other next quit k)
    other-meets hand nothing_else inner p q h proper b xs here fits next quit k around m = at-end (O hand) b xs k h m
    other-meets hand (otherwise body) inner p q h proper b xs here fits next quit k around m = body-meets hand body inner p q h proper b xs here fits next quit k around m

    arms-meet : (hand : Place) (arms : Arms) (inner : Inner) (end p q : ℕ) → bodies.ArmsAt t hand arms inner end p q → AreProperArms arms → (b : ℕ) (xs : List ℕ) → Fine v b xs → length xs + chain_depth v arms ≤ room v → (next quit k other : Rest) → IsAround (O hand) inner b xs next quit → Then (O hand) b (St v end xs) k → Then (O hand) b (St v q xs) other →
        Then (O hand) b (St v p xs) (statements.chooses most_passes callee (s v) return abort arms next quit k other)
    arms-meet hand no_arms inner end p q h proper b xs here fits next quit k other around m n = at-end (O hand) b xs other h n
    arms-meet hand (arms ⊳ arm (no_items ▸ single e) negated body) inner end p q h proper b xs here fits next quit k other around m n =
        let taken_arm : Rest = statements.executes_all most_passes callee (s v) return abort body next quit k in
        arms-meet hand arms inner end p h.0 h.4 proper.0 b xs here (omega (arith, fits)) next quit k (statements.decides most_passes callee (s v) return abort negated e taken_arm other) around m
        (decides-meets (O hand) most_passes return negated e h.0 h.1 h.2 q h.5 h.6 proper.1.0.1 b xs (fine-at hand here) (omega (arith, fits)) taken_arm other
        (body-meets hand body inner h.2 h.3 h.7 proper.1.1 b xs here (omega (arith, fits)) next quit k around (end-meets (O hand) h.3 end h.8 b xs k m)) n)
    arms-meet hand (arms ⊳ arm no_items negated body) inner end p q h proper b xs here fits next quit k other around m n = absurd h
    arms-meet hand (arms ⊳ arm (no_items ▸ range e d) negated body) inner end p q h proper b xs here fits next quit k other around m n = absurd h
    arms-meet hand (arms ⊳ arm (x ▸ y ▸ z) negated body) inner end p q h proper b xs here fits next quit k other around m n = absurd h

    choices-meet : (hand : Place) (value : ℕ) (arms : Arms) (inner : Inner) (end p q : ℕ) → bodies.ChoicesAt t hand arms inner end p q → AreProperChoices arms → (b : ℕ) (xs : List ℕ) → Fine v b xs → length xs + arms_depth v arms ≤ room v → (next quit k other : Rest) → IsAround (O hand) inner b xs next quit → Then (O hand) b (St v end xs) k → Then (O hand) b (St v q (xs ++ value ∷ [])) other →
        Then (O hand) b (St v p (xs ++ value ∷ [])) (statements.matches most_passes callee (s v) return abort value arms next quit k other)
    choices-meet hand value no_arms inner end p q h proper b xs here fits next quit k other around m n = at-end (O hand) b (xs ++ value ∷ []) other h n
    choices-meet hand value (arms ⊳ arm items negated body) inner end p q h proper b xs here fits next quit k other around m n =
        let taken_arm : Rest = statements.executes_all most_passes callee (s v) return abort body next quit k in
        choices-meet hand value arms inner end p h.0 h.4 proper.0 b xs here (omega (arith, fits)) next quit k (statements.fits_one most_passes callee (s v) return abort value items taken_arm other) around m
        (fits-meets (O hand) most_passes return value items h.1 h.0 q h.5 proper.1.2 b xs (fine-at hand here) (omega (arith, fits)) taken_arm other
        (drop-meets (O hand) h.1 h.2 h.6 b xs (fine-at hand here) (omega (arith, fits)) value taken_arm
        (body-meets hand body inner h.2 h.3 h.7 proper.1.3 b xs here (omega (arith, fits)) next quit k around (end-meets (O hand) h.3 end h.8 b xs k m))) n)
