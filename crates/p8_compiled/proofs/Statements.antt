-- The code of statements stands for what they are.
use Rattle.std.proofs.Common.{◌≡◌, inl, inr, refl, ap, ◌∙◌, subst, arith, ℕ, ◌+◌, ◌||◌, not, Bool, true, false, if◌then◌else◌, List, [], ◌∷◌, Option, Some, None, IsTrue}
use Rattle.p8_tree.specs.declared.places.Place.{Place}
use Rattle.p8_tree.specs.Expressions.{Tree, node, Var, Call, Assign, Change, Built, Named, no_index, index, single, range, Items, no_items, ◌▸◌}
use Rattle.p8_tree.specs.Lists.{count_of_trees}
use Rattle.p8_tree.specs.Statements.{Forever, Count, Before, After, From, Statement, statement, Action, Do, If, Case, Repeat, Next, Quit, Return, Abort, arm, Otherwise, nothing_else, otherwise, Statements, no_statements, ◌▹◌, Arms, no_arms, ◌⊳◌}
use Rattle.p8_tree.specs.Proper as proper
use Rattle.p8_tree.specs.Proper.{IsProperTree, IsProperAction, IsProperStatement, AreProperStatements, AreProperArms, AreProperChoices, AreProperTests, IsProperOtherwise, IsDone, IfThere, IsProperExpression}
use Rattle.p8_tree.specs.Nesting.{leave_loops, leaves_loop, action_leaves, arms_leave, other_leaves}
use Rattle.p8_tree.specs.declared.faults.Fault.{Fault}
use Rattle.p8_kinds.specs.Misuses.{MisuseDone, name_alone, MisuseInOption, MisuseInItems, MisuseInStatements, MisuseInStatement, MisuseInAction, MisuseInArms, MisuseInOtherwise}
use Rattle.p8_gen.specs.Names.{Names}
use Rattle.p8_gen.specs.Pieces.{Written, from_place, Piece, nothing, ◌⨾◌, byte, jump, jumping}
use Rattle.p8_gen.specs.Variables.{effect_for, assigned, Using}
use Rattle.p8_gen.specs.Expressions.{value, alone, size_of}
use Rattle.p8_gen.specs.Statements.{Loop, SameLoop, inside, goes_on, leaves, with_value, tests, step_of, step_effect, plain_name, zero_jump, code, code_of, body, chain, other_body, all_tests, case_bodies}
use Rattle.p8_gen.proofs.Widths as widths
use Rattle.p8_gen.proofs.Widths.{Alike}
use Rattle.p8_compiled.specs.Courses.{takes_one, takes_value, drops}
use Rattle.p8_compiled.specs.Standing.{Compiled, with_hand, At, ValueAt, writes}
use Rattle.p8_compiled.specs.Bodies.{jumps, jumps_unless, jumps_where, begins_loop, ends_loop, Inner, outside, plain, with_count, NextAt, QuitAt, EndAt, ActAt, FitsAt, PassEndAt, StatementAt, BodyAt, OtherAt, ArmsAt, ChoicesAt}
use Rattle.p8_compiled.specs.Agreeing.{Agrees, environment}
use Rattle.p8_compiled.proofs.Standing.{Stand, Counted, nothings, both, three, four, so, up, up-jumps, meet, from, of}
use Rattle.p8_compiled.proofs.Bytecodes.{mark-stand, return-result-stand, return-value-stand, abort-result-stand, abort-value-stand, drop-stand, drop-case-stand, goes-stand, unless-stand, where-stand, loop-begins-stand, loop-ends-stand}
use Rattle.p8_compiled.proofs.Tests.{value-test-stand, range-test-stand}
use Rattle.p8_compiled.proofs.Effects.{all_changes}
use Rattle.p8_compiled.proofs.Choices.{each}
use Rattle.p8_compiled.proofs.Homes.{IsFound, found}
use Rattle.p8_compiled.proofs.Changing.{pop-stand, assign-stand, change-stand}
use Rattle.p8_compiled.proofs.Jumping.{step-by-one-stand, step-by-stand}
use Rattle.p8_compiled.proofs.Uses.{none-there, usable}
use Rattle.p8_compiled.proofs.Values.{Clean, value-stand, values-stand, index-stand, names-stand, joined, own-stand, object-stand, own-none, built-stand, arguments-fit, known-size, has-register}
use Rattle.p8_compiled.proofs.Truths.{both-true}

-- the names of a statement agree where those of another do
pub in-statement : (n : Names) (t : Compiled) (s : Place) → Agrees n t → Agrees (record n { statement = s }) t
in-statement n t s a = record {
  kinds = a.kinds;
  no_result = a.no_result;
  sound = a.sound;
  publics = a.publics;
  constants = a.constants;
  words = a.words;
  texts = a.texts;
  near_texts = a.near_texts;
}

-- also for the code of a statement
pub on-statement : (n : Names) (t : Compiled) (hand : Place) → Agrees n t → Agrees n (with_hand t hand)
on-statement n t hand a = record {
  kinds = a.kinds;
  no_result = a.no_result;
  sound = a.sound;
  publics = λ item method number params is.
      let r = a.publics item method number params is in
      (r.0, record { child = r.1.child; is_child = r.1.is_child; file = r.1.file; is_file = r.1.is_file; is_named = r.1.is_named; fits = r.1.fits });
  constants = a.constants;
  words = a.words;
  texts = a.texts;
  near_texts = a.near_texts;
}

-- ---- expressions that stand alone

any-change : (k : ℕ) → IsTrue (proper.is_change k || proper.is_operator_alone k) → proper.is_one_of all_changes k ≡ true
any-change k is = by-list (proper.is_change k) refl is
  where
    by-list : (listed : Bool) → proper.is_change k ≡ listed → (listed || proper.is_operator_alone k) ≡ true → proper.is_one_of all_changes k ≡ true
    by-list true known is = each (λ j. proper.is_one_of all_changes j ≡ true) (0x20 ∷ 0x28 ∷ 0x30 ∷ 0x38 ∷ 0x10 ∷ 0x18 ∷ 0x14 ∷ 0x1C ∷ []) (refl, (refl, (refl, (refl, (refl, (refl, (refl, (refl, tt)))))))) k known
    by-list false known is = each (λ j. proper.is_one_of all_changes j ≡ true) (0x46 ∷ 0x47 ∷ 0x49 ∷ 0x51 ∷ 0x53 ∷ 0x58 ∷ 0x5F ∷ []) (refl, (refl, (refl, (refl, (refl, (refl, (refl, tt))))))) k is

module _ (t : Compiled) (base : ℕ) where
  abbrev pub S : Piece → ((p q : ℕ) → Type 0) → Type 0
  S piece R = Stand t.memory base t.table t.hand piece R

  abbrev C : Piece → ((i j p q : ℕ) → Type 0) → Type 0
  C piece R = Counted t.memory base t.table t.hand piece R

  abbrev CleanDone : Names → Tree → Type 0
  CleanDone n e = (f : Fault) → MisuseDone (environment n) (name_alone e) e f → ⊥

  pub alone-stand : (n : Names) → Agrees n t → (e : Tree) → IsDone e → CleanDone n e → S (alone n e) (ActAt t e)
  alone-stand n a (node p (Var (Named name no_index q))) is clean =
      both (mark-stand t.memory t.cog base t.table t.hand false false) (own-stand n t base a name 0 q (none-there _ clean))
  alone-stand n a (node p (Call trap None no_index method q args)) is clean =
      three (mark-stand t.memory t.cog base t.table t.hand false trap) (values-stand n t base a args is.0.3 (λ f b. clean f (inr (inr b))))
      (own-stand n t base a method (count_of_trees args) q (own-none n t base a p (Call trap None no_index method q args) clean))
  alone-stand n a (node p (Call trap None (index e) method q args)) is clean = absurd (let never : false ≡ true = is.0.1.0 in cc)
  alone-stand n a (node p (Call trap (Some object) i method q args)) is clean =
      four (mark-stand t.memory t.cog base t.table t.hand false trap) (values-stand n t base a args is.0.3 (λ f b. clean f (inr (inr b)))) (index-stand n t base a i is.0.2 (λ f b. clean f (inr (inl b))))
      (object-stand n t base a object i method (count_of_trees args) p q (own-none n t base a p (Call trap (Some object) i method q args) clean))
  alone-stand n a (node p (Assign v operator e)) is clean =
      so (both (value-stand n t base a e is.0.3 (λ f b. clean f (inr (inr b))))
      (joined n t base a v (assigned false operator) (names-stand n t base a v is.0.2 (λ f b. clean f (inr (inl b))))
      (assign-stand n t base v (found n t a v (usable n t a v is.0.2 (own-none n t base a p (Assign v operator e) clean))) false operator is.0.0)))
      (λ x y r. (r.0, r.2.0, r.1, r.2.1, has-register v is.0.1, r.2.2))
  alone-stand n a (node p (Change v change)) is clean =
      let u = usable n t a v is.0.2 (own-none n t base a p (Change v change) clean) in
      so (joined n t base a v (Using (effect_for (size_of n v) change)) (names-stand n t base a v is.0.2 (λ f b. clean f (inr b)))
      (change-stand n t base v (found n t a v u) false (size_of n v) change (known-size n t base a v u) (any-change change is.0.0)))
      (λ x y r. (r.0, r.1, has-register v is.0.1, r.2))
  alone-stand n a (node p (Built code args)) is clean =
      built-stand n t base a false code args is.0.0 is.0.1 (arguments-fit n t base a code args p (own-none n t base a p (Built code args) clean)) (λ other f b. clean f (inr (inr (ap not other, b))))
  alone-stand n a (node p (Var (Named name (index e) q))) is clean = absurd is.0
  alone-stand n a (node p (Var _)) is clean = absurd is.0
  alone-stand n a (node p _) is clean = absurd is.0

  -- ---- loops

  -- the innermost loop, by its places
  abbrev inner_by : (counted : Bool) → (next quit : ℕ) → Inner
  inner_by true next quit = with_count next quit
  inner_by false next quit = plain next quit

  abbrev pub inner_of : Option Loop → Inner
  inner_of None = outside
  inner_of (Some loop) = inner_by loop.counted (base + loop.next) (base + loop.quit)

  abbrev pub in_loop : Option Loop → Bool
  in_loop None = false
  in_loop (Some loop) = true

  next-by : (n : Names) (counted : Bool) (next quit : ℕ) → S (jump n.wide n.statement 0x04 next) (NextAt t (inner_by counted (base + next) (base + quit)))
  next-by n true next quit = goes-stand t.memory t.cog base t.table t.hand n.wide n.statement next
  next-by n false next quit = goes-stand t.memory t.cog base t.table t.hand n.wide n.statement next

  pub next-stand : (n : Names) (l : Option Loop) → IsTrue (in_loop l) → S (goes_on n l) (NextAt t (inner_of l))
  next-stand n None is = absurd (let never : false ≡ true = is in cc)
  next-stand n (Some loop) is = next-by n loop.counted loop.next loop.quit

  quit-by : (n : Names) (counted : Bool) (next quit : ℕ) → S ((if counted then byte 0x14 else nothing) ⨾ jump n.wide n.statement 0x04 quit) (QuitAt t (inner_by counted (base + next) (base + quit)))
  quit-by n true next quit = both (drop-stand t.memory t.cog base t.table t.hand) (goes-stand t.memory t.cog base t.table t.hand n.wide n.statement quit)
  quit-by n false next quit = goes-stand t.memory t.cog base t.table t.hand n.wide n.statement quit

  pub quit-stand : (n : Names) (l : Option Loop) → IsTrue (in_loop l) → S (leaves n l) (QuitAt t (inner_of l))
  quit-stand n None is = absurd (let never : false ≡ true = is in cc)
  quit-stand n (Some loop) is = quit-by n loop.counted loop.next loop.quit

  -- ---- CASE

  pub same-loop : (l : Option Loop) → SameLoop l l
  same-loop None = tt
  same-loop (Some loop) = refl

  -- how long the bodies of arms are, with so many jumps before them
  abbrev pub bodies_size : Names → Option Loop → (before : ℕ) → Arms → ℕ
  bodies_size n l before arms = (case_bodies n l 0 arms (from_place 0 before)).end

  pub bodies-end : (n : Names) (l : Option Loop) (end : ℕ) (arms : Arms) (w : Written) → (case_bodies n l end arms w).end ≡ w.end + bodies_size n l w.jumps arms
  bodies-end n l end arms w =
      let ends = (widths.bodies-alike n n.text n.statement l l (same-loop l) end 0 arms).ends w (from_place 0 w.jumps) refl in
      omega (arith, ends)

  abbrev pub CleanItems : Names → Items → Type 0
  CleanItems n xs = (f : Fault) → MisuseInItems (environment n) xs f → ⊥

  abbrev pub CleanArms : Names → Arms → Type 0
  CleanArms n arms = (f : Fault) → MisuseInArms (environment n) arms f → ⊥

  abbrev pub CleanBody : Names → Statements → Type 0
  CleanBody n ss = (f : Fault) → MisuseInStatements (environment n) ss f → ⊥

  pub tests-stand : (n : Names) → Agrees n t → (to : ℕ) → (xs : Items) → AreProperTests xs → CleanItems n xs → S (tests n to xs) (FitsAt t xs (base + to))
  tests-stand n a to no_items is clean = nothings
  tests-stand n a to (xs ▸ single e) is clean =
      so (three (tests-stand n a to xs is.0 (λ f b. clean f (inl b))) (value-stand n t base a e is.1.0 (λ f b. clean f (inr b))) (value-test-stand t.memory t.cog base t.table t.hand n.wide n.statement to))
      (λ p q r. (r.0, r.2, (r.1, r.3, r.4)))
  tests-stand n a to (xs ▸ range e d) is clean =
      so (four (tests-stand n a to xs is.0 (λ f b. clean f (inl b))) (value-stand n t base a e is.1.0.0 (λ f b. clean f (inr (inl b)))) (value-stand n t base a d is.1.1.0 (λ f b. clean f (inr (inr b)))) (range-test-stand t.memory t.cog base t.table t.hand n.wide n.statement to))
      (λ p q r. (r.0, r.3, (r.1, r.2, r.4, r.5, r.6)))

  -- the tests of a CASE, and what follows them up to the bodies
  pub case-alike : (n : Names) (l : Option Loop) (e : Tree) (arms : Arms) (other : Otherwise) (i j f g x y : ℕ) →
      Alike (value n e ⨾ all_tests n l i f arms ⨾ byte 0x0C ⨾ other_body n l other ⨾ jump n.wide n.statement 0x04 x) (value n e ⨾ all_tests n l j g arms ⨾ byte 0x0C ⨾ other_body n l other ⨾ jump n.wide n.statement 0x04 y)
  case-alike n l e arms other i j f g x y =
      widths.both (widths.both (widths.both (widths.both (widths.value-alike n n.text n.statement e) (widths.all-tests-alike n n.text n.statement l l (same-loop l) i j f g arms)) (widths.bytes 0x0C)) (widths.other-alike n n.text n.statement l l (same-loop l) other))
      (widths.jumps n.wide n.statement n.statement 0x04 x y)

  pub five : {x y z u v : Piece} {R T U V W : (p q : ℕ) → Type 0} → S x R → S y T → S z U → S u V → S v W → S (x ⨾ y ⨾ z ⨾ u ⨾ v) (λ p q. (p1 p2 p3 p4 : ℕ) × R p p1 × T p1 p2 × U p2 p3 × V p3 p4 × W p4 q)
  five a b c d e = so (both (four a b c d) e) (λ p q r. (r.1.0, r.1.1, r.1.2, r.0, r.1.3, r.1.4, r.1.5, r.1.6, r.2))

  -- ---- loops with a counter

  pub pass-stand : (n : Names) (a : Agrees n t) (name : List ℕ) (q : Place) → IsFound n t (Named name no_index q) → (x y : Tree) (step : Option Tree) → IsProperTree false x → IsProperTree false y → IfThere (IsProperExpression false) step →
      Clean n t base a x → Clean n t base a y → ((f : Fault) → MisuseInOption (environment n) step f → ⊥) → (start : ℕ) →
      S (step_of n step ⨾ value n x ⨾ value n y ⨾ jumping n.wide n.statement start (plain_name n name (step_effect step))) (PassEndAt t (Named name no_index q) x y step (base + start))
  pass-stand n a name q f x y None is_x is_y is_step clean_x clean_y clean_step start =
      three (value-stand n t base a x is_x clean_x) (value-stand n t base a y is_y clean_y) (step-by-one-stand n t base name q f n.wide n.statement start)
  pass-stand n a name q f x y (Some e) is_x is_y is_step clean_x clean_y clean_step start =
      four (value-stand n t base a e is_step.0 clean_step) (value-stand n t base a x is_x clean_x) (value-stand n t base a y is_y clean_y) (step-by-stand n t base name q f n.wide n.statement start)

  -- ---- IF

  -- after the body of the last arm of a chain stands a jump, or nothing
  abbrev pub last_of : Names → (jumps : Bool) → (end : ℕ) → Piece
  last_of n true end = jump n.wide n.statement 0x04 end
  last_of n false end = nothing

  abbrev pub LastAt : (jumps : Bool) → (end p q : ℕ) → Type 0
  LastAt true end p q = At t p (jumps end) q
  LastAt false end p q = p ≡ q

  abbrev pub EndsThere : (jumps : Bool) → (end q : ℕ) → Type 0
  EndsThere true end q = Unit {0}
  EndsThere false end q = q ≡ end

  pub last-stand : (n : Names) (jumps : Bool) (end : ℕ) → S (last_of n jumps end) (LastAt jumps (base + end))
  last-stand n true end = goes-stand t.memory t.cog base t.table t.hand n.wide n.statement end
  last-stand n false end = nothings

  pub last-alike : (n : Names) (jumps : Bool) (end : ℕ) → Alike (last_of n jumps end) (last_of n jumps end)
  last-alike n true end = widths.jumps n.wide n.statement n.statement 0x04 end end
  last-alike n false end = widths.nothings

  pub leads-on : (jumps : Bool) (end p q : ℕ) → LastAt jumps end p q → EndsThere jumps end q → EndAt t p end
  leads-on true end p q last there = inr (q, last)
  leads-on false end p q last there = inl (last ∙ there)

-- ---- statements, each with itself at hand

module _ (t : Compiled) (base : ℕ) where
  abbrev U : (hand : Place) → Piece → ((p q : ℕ) → Type 0) → Type 0
  U hand piece R = Stand t.memory base t.table hand piece R

  abbrev D : (hand : Place) → Piece → ((i j p q : ℕ) → Type 0) → Type 0
  D hand piece R = Counted t.memory base t.table hand piece R

  -- the bodies of arms that stand one after the other from a place on, with so many jumps before it, each of which jumps to the end
  abbrev Bodies : (p : Place) → Names → Option Loop → (end first before : ℕ) → Arms → Type 0
  Bodies p n l end first before no_arms = Unit {0}
  Bodies p n l end first before (arms ⊳ arm items negated ss) =
      Bodies p n l end first before arms × ((a1 a2 q : ℕ) × At (with_hand t p) (first + bodies_size t base n l before arms) (takes_one 0 drops) a1 × BodyAt t ss (inner_of t base l) a1 a2 × At (with_hand t p) a2 (jumps end) q)

  all-tests-stand : (p : Place) (n : Names) → Agrees n t → (l : Option Loop) (end first before : ℕ) (arms : Arms) → AreProperChoices arms → CleanArms t base n arms →
      U p (all_tests n l first before arms) (λ x y. Bodies p n l end (base + first) before arms → ChoicesAt t p arms (inner_of t base l) end x y)
  all-tests-stand p n a l end first before no_arms is clean = so nothings (λ x y same bodies. same)
  all-tests-stand p n a l end first before (arms ⊳ arm items negated ss) is clean =
      let to : ℕ = (case_bodies n l 0 arms (from_place first before)).end in
      let ends = bodies-end t base n l 0 arms (from_place first before) in
      let there : base + first + bodies_size t base n l before arms ≡ base + to = omega (arith, ends) in
      so (both (all-tests-stand p n a l end first before arms is.0 (λ f b. clean f (inl b))) (tests-stand (with_hand t p) base n (on-statement n t p a) to items is.1.2 (λ f b. clean f (inr (inl b)))))
      (λ x y r bodies. (
        r.0,
        base + to,
        bodies.1.0,
        bodies.1.1,
        r.1 bodies.0,
        r.2,
        subst (λ (place : ℕ). At (with_hand t p) place (takes_one 0 drops) bodies.1.0) there bodies.1.3,
        bodies.1.4,
        inr (bodies.1.2, bodies.1.5),
      ))

  -- one body more, whose place is where those before it end
  one-more : (p : Place) (n : Names) (l : Option Loop) (end : ℕ) (arms : Arms) (items : Items) (negated : Bool) (ss : Statements) → D p (case_bodies n l end arms) (λ i j x y. Bodies p n l (base + end) x i arms) →
      U p (byte 0x0C ⨾ body n l ss ⨾ jump n.wide n.statement 0x04 end) (λ x y. (a1 a2 : ℕ) × At (with_hand t p) x (takes_one 0 drops) a1 × BodyAt t ss (inner_of t base l) a1 a2 × At (with_hand t p) a2 (jumps (base + end)) y) →
      D p (case_bodies n l end (arms ⊳ arm items negated ss)) (λ i j x y. Bodies p n l (base + end) x i (arms ⊳ arm items negated ss))
  one-more p n l end arms items negated ss before last = record {
    by = λ w at h.
        let v = case_bodies n l end arms w in
        let y = last.by v (before.keeps w ∙ at) h in
        let x = before.by w at y.0 in
        let ends = bodies-end t base n l end arms w in
        let there : base + v.end ≡ base + w.end + bodies_size t base n l w.jumps arms = omega (arith, ends) in
        (x.0, (x.1, (y.1.0, y.1.1, _, subst (λ (place : ℕ). At (with_hand t p) place (takes_one 0 drops) y.1.0) there y.1.2, y.1.3, y.1.4)));
    keeps = λ w. last.keeps (case_bodies n l end arms w) ∙ before.keeps w;
    exist = λ w near.
        let v = last.exist (case_bodies n l end arms w) near in
        let u = before.exist w v.0 in
        (u.0, λ are. v.1 (u.1 are));
  }

  -- ---- values of RETURN and ABORT

  returned-stand : (n : Names) (a : Agrees n t) (l : Option Loop) (p : Place) (e : Option Tree) → IfThere (IsProperExpression false) e → ((f : Fault) → MisuseInOption (environment n) e f → ⊥) → U p (with_value n e 0x32 0x33) (StatementAt t (statement p (Return e)) (inner_of t base l))
  returned-stand n a l p None is clean = return-result-stand t.memory t.cog base t.table p
  returned-stand n a l p (Some e) is clean = both (value-stand n (with_hand t p) base (on-statement n t p a) e is.0 clean) (return-value-stand t.memory t.cog base t.table p)

  aborted-stand : (n : Names) (a : Agrees n t) (l : Option Loop) (p : Place) (e : Option Tree) → IfThere (IsProperExpression false) e → ((f : Fault) → MisuseInOption (environment n) e f → ⊥) → U p (with_value n e 0x30 0x31) (StatementAt t (statement p (Abort e)) (inner_of t base l))
  aborted-stand n a l p None is clean = abort-result-stand t.memory t.cog base t.table p
  aborted-stand n a l p (Some e) is clean = both (value-stand n (with_hand t p) base (on-statement n t p a) e is.0 clean) (abort-value-stand t.memory t.cog base t.table p)

  -- ---- the induction

  mutual
    pub code-stand : (hand : Place) (n : Names) (a : Agrees n t) (l : Option Loop) (x : Statement) → IsProperStatement x → leaves_loop (in_loop t base l) x ≡ true → ((f : Fault) → MisuseInStatement (environment n) x f → ⊥) → U hand (code n l x) (StatementAt t x (inner_of t base l))
    code-stand hand n a l (statement p action) is loops clean = of p (action-stand (record n { statement = p }) (in-statement n t p a) l p action is loops clean)

    action-stand : (n : Names) (a : Agrees n t) (l : Option Loop) (p : Place) (x : Action) → IsProperAction x → action_leaves (in_loop t base l) x ≡ true → ((f : Fault) → MisuseInAction (environment n) x f → ⊥) → U p (code_of n l x) (StatementAt t (statement p x) (inner_of t base l))
    action-stand n a l p (Do e) is loops clean = alone-stand (with_hand t p) base n (on-statement n t p a) e is clean
    action-stand n a l p (If arms nothing_else) is loops clean =
        so (up (λ end x y. y ≡ end → ArmsAt t p arms (inner_of t base l) end x y)
        (λ x y. widths.chain-alike n n.text n.statement l l (same-loop t base l) _ _ _ _ (widths.jumps n.wide n.statement n.statement 0x04 x y) widths.nothings arms)
        (λ end. chain-stand p n a l false end arms is.1 (both-true _ _ loops).0 (λ f b. clean f (inl b))))
        (λ x y r. (y, r refl, refl))
    action-stand n a l p (If arms (otherwise ss)) is loops clean =
        up (λ end x y. (p1 : ℕ) × ArmsAt t p arms (inner_of t base l) end x p1 × BodyAt t ss (inner_of t base l) p1 y)
        (λ x y. widths.both (widths.chain-alike n n.text n.statement l l (same-loop t base l) _ _ _ _ (widths.jumps n.wide n.statement n.statement 0x04 x y) (widths.jumps n.wide n.statement n.statement 0x04 x y) arms) (widths.body-alike n n.text n.statement l l (same-loop t base l) ss))
        (λ end. both (so (chain-stand p n a l true end arms is.1 (both-true _ _ loops).0 (λ f b. clean f (inl b))) (λ x y r. r tt))
        (body-stand p n a l ss is.2 (both-true _ _ loops).1 (λ f b. clean f (inr b))))
    action-stand n a l p (Case e arms other) is loops clean =
        let e_clean : Clean n (with_hand t p) base (on-statement n t p a) e = λ f b. clean f (inl (inl b)) in
        let arms_clean : CleanArms t base n arms = λ f b. clean f (inl (inr b)) in
        up (λ end x y. (p1 p2 p3 p4 : ℕ) × ValueAt (with_hand t p) e x p1 × ChoicesAt t p arms (inner_of t base l) end p1 p2 × At (with_hand t p) p2 (takes_one 0 drops) p3 × OtherAt t other (inner_of t base l) p3 p4 × EndAt (with_hand t p) p4 end)
        (λ x y. widths.both (widths.up-jumps (λ i j f g. case-alike t base n l e arms other i j f g x y)) (widths.bodies-alike n n.text n.statement l l (same-loop t base l) x y arms))
        (λ end. so (meet
        (up-jumps (λ first before x y. (p1 p2 p3 p4 : ℕ) × ValueAt (with_hand t p) e x p1 × (Bodies p n l (base + end) first before arms → ChoicesAt t p arms (inner_of t base l) (base + end) p1 p2) × At (with_hand t p) p2 (takes_one 0 drops) p3 × OtherAt t other (inner_of t base l) p3 p4 × At (with_hand t p) p4 (jumps (base + end)) y)
        (λ i j f g. case-alike t base n l e arms other i j f g end end)
        (λ first before. five (with_hand t p) base (value-stand n (with_hand t p) base (on-statement n t p a) e is.0.0 e_clean) (all-tests-stand p n a l (base + end) first before arms is.1 arms_clean) (drop-case-stand t.memory t.cog base t.table p)
        (other-stand p n a l other is.2 (both-true _ _ loops).1 (λ f b. clean f (inr b))) (goes-stand t.memory t.cog base t.table p n.wide n.statement end)))
        (bodies-stand p n a l end arms is.1 (both-true _ _ loops).0 arms_clean))
        (λ x y r. (r.2.0, r.2.1, r.2.2, r.2.3, r.2.4, r.2.5 r.3, r.2.6, r.2.7, inr (r.1, r.2.8))))
    action-stand n a l p (Repeat Forever ss) is loops clean =
        up (λ end x y. (p1 : ℕ) × BodyAt t ss (plain x end) x p1 × At (with_hand t p) p1 (jumps x) y)
        (λ x y. widths.froms (λ i j. widths.both (widths.body-alike n n.text n.statement (inside i x false) (inside j y false) refl ss) (widths.jumps n.wide n.statement n.statement 0x04 i j)))
        (λ end. from (λ start x y. (p1 : ℕ) × BodyAt t ss (plain start (base + end)) x p1 × At (with_hand t p) p1 (jumps start) y)
        (λ start. both (body-stand p n a (inside start end false) ss is.1 loops (λ f b. clean f (inr b))) (goes-stand t.memory t.cog base t.table p n.wide n.statement start)))
    action-stand n a l p (Repeat (Count e) ss) is loops clean =
        up (λ end x y. (p1 p2 p3 : ℕ) × ValueAt (with_hand t p) e x p1 × At (with_hand t p) p1 (begins_loop end) p2 × BodyAt t ss (with_count p3 end) p2 p3 × At (with_hand t p) p3 (takes_one 1 (ends_loop p2)) y)
        (λ x y. widths.both (widths.both (widths.value-alike n n.text n.statement e) (widths.jumps n.wide n.statement n.statement 0x08 x y))
        (widths.froms (λ i j. widths.both (widths.ups (λ v w. widths.body-alike n n.text n.statement (inside v x true) (inside w y true) refl ss)) (widths.jumps n.wide n.statement n.statement 0x09 i j))))
        (λ end. so (three (value-stand n (with_hand t p) base (on-statement n t p a) e is.0.0 (λ f b. clean f (inl b))) (loop-begins-stand t.memory t.cog base t.table p n.wide n.statement end)
        (from (λ start x y. (p3 : ℕ) × BodyAt t ss (with_count p3 (base + end)) x p3 × At (with_hand t p) p3 (takes_one 1 (ends_loop start)) y)
        (λ start. both
        (up (λ next x y. BodyAt t ss (with_count next (base + end)) x y) (λ v w. widths.body-alike n n.text n.statement (inside v end true) (inside w end true) refl ss)
        (λ next. body-stand p n a (inside next end true) ss is.1 loops (λ f b. clean f (inr b))))
        (loop-ends-stand t.memory t.cog base t.table p n.wide n.statement start))))
        (λ x y r. (r.0, r.1, r.4.0, r.2, r.3, r.4.1, r.4.2)))
    action-stand n a l p (Repeat (Before until e) ss) is loops clean =
        up (λ end x y. (p1 p2 p3 : ℕ) × ValueAt (with_hand t p) e x p1 × At (with_hand t p) p1 (takes_one 0 (jumps_unless until end)) p2 × BodyAt t ss (plain x end) p2 p3 × At (with_hand t p) p3 (jumps x) y)
        (λ x y. widths.froms (λ i j. widths.both (widths.both (widths.both (widths.value-alike n n.text n.statement e) (widths.jumps n.wide n.statement n.statement (zero_jump until) x y))
        (widths.body-alike n n.text n.statement (inside i x false) (inside j y false) refl ss)) (widths.jumps n.wide n.statement n.statement 0x04 i j)))
        (λ end. from (λ start x y. (p1 p2 p3 : ℕ) × ValueAt (with_hand t p) e x p1 × At (with_hand t p) p1 (takes_one 0 (jumps_unless until (base + end))) p2 × BodyAt t ss (plain start (base + end)) p2 p3 × At (with_hand t p) p3 (jumps start) y)
        (λ start. four (value-stand n (with_hand t p) base (on-statement n t p a) e is.0.0 (λ f b. clean f (inl b))) (unless-stand t.memory t.cog base t.table p until n.wide n.statement end)
        (body-stand p n a (inside start end false) ss is.1 loops (λ f b. clean f (inr b))) (goes-stand t.memory t.cog base t.table p n.wide n.statement start)))
    action-stand n a l p (Repeat (After until e) ss) is loops clean =
        up (λ end x y. (p1 p2 : ℕ) × BodyAt t ss (plain p1 end) x p1 × ValueAt (with_hand t p) e p1 p2 × At (with_hand t p) p2 (takes_one 0 (jumps_where until x)) y)
        (λ x y. widths.froms (λ i j. widths.both (widths.both (widths.ups (λ v w. widths.body-alike n n.text n.statement (inside v x false) (inside w y false) refl ss)) (widths.value-alike n n.text n.statement e))
        (widths.jumps n.wide n.statement n.statement (zero_jump (not until)) i j)))
        (λ end. from (λ start x y. (p1 p2 : ℕ) × BodyAt t ss (plain p1 (base + end)) x p1 × ValueAt (with_hand t p) e p1 p2 × At (with_hand t p) p2 (takes_one 0 (jumps_where until start)) y)
        (λ start. three
        (up (λ next x y. BodyAt t ss (plain next (base + end)) x y) (λ v w. widths.body-alike n n.text n.statement (inside v end false) (inside w end false) refl ss)
        (λ next. body-stand p n a (inside next end false) ss is.1 loops (λ f b. clean f (inr b))))
        (value-stand n (with_hand t p) base (on-statement n t p a) e is.0.0 (λ f b. clean f (inl b))) (where-stand t.memory t.cog base t.table p until n.wide n.statement start)))
    action-stand n a l p (Repeat (From name x0 y0 step q) ss) is loops clean =
        let f : IsFound n (with_hand t p) (Named name no_index q) = found n (with_hand t p) (on-statement n t p a) (Named name no_index q) (usable n (with_hand t p) (on-statement n t p a) (Named name no_index q) (is.0.0, tt) (none-there _ (λ f b. clean f (inl (inl b))))) in
        up (λ end x y. (p1 p2 p3 : ℕ) × ValueAt (with_hand t p) x0 x p1 × At (with_hand t p) p1 (takes_value 0 0 (writes (with_hand t p) false (Named name no_index q))) p2 × BodyAt t ss (plain p3 end) p2 p3 × PassEndAt (with_hand t p) (Named name no_index q) x0 y0 step p2 p3 y)
        (λ x y. widths.both (widths.both (widths.value-alike n n.text n.statement x0) (widths.same-one _))
        (widths.froms (λ i j.
        widths.both (widths.both (widths.both (widths.both (widths.ups (λ v w. widths.body-alike n n.text n.statement (inside v x false) (inside w y false) refl ss)) (widths.step-alike n n.text n.statement step)) (widths.value-alike n n.text n.statement x0))
        (widths.value-alike n n.text n.statement y0)) (widths.steps n.wide n.statement n.statement i j (plain_name n name (step_effect step))))))
        (λ end. so (three (value-stand n (with_hand t p) base (on-statement n t p a) x0 is.0.1.0 (λ f b. clean f (inl (inr (inl (inl b)))))) (pop-stand n (with_hand t p) base (Named name no_index q) f)
        (from (λ start x y. (p3 : ℕ) × BodyAt t ss (plain p3 (base + end)) x p3 × PassEndAt (with_hand t p) (Named name no_index q) x0 y0 step start p3 y)
        (λ start. both
        (up (λ next x y. BodyAt t ss (plain next (base + end)) x y) (λ v w. widths.body-alike n n.text n.statement (inside v end false) (inside w end false) refl ss)
        (λ next. body-stand p n a (inside next end false) ss is.1 loops (λ f b. clean f (inr b))))
        (pass-stand (with_hand t p) base n (on-statement n t p a) name q f x0 y0 step is.0.1.0 is.0.2.0 is.0.3 (λ f b. clean f (inl (inr (inl (inl b))))) (λ f b. clean f (inl (inr (inl (inr b))))) (λ f b. clean f (inl (inr (inr b)))) start))))
        (λ x y r. (r.0, r.1, r.4.0, r.2, r.3, r.4.1, r.4.2)))
    action-stand n a l p Next is loops clean = next-stand (with_hand t p) base n l loops
    action-stand n a l p Quit is loops clean = quit-stand (with_hand t p) base n l loops
    action-stand n a l p (Return e) is loops clean = returned-stand n a l p e is clean
    action-stand n a l p (Abort e) is loops clean = aborted-stand n a l p e is clean

    pub body-stand : (hand : Place) (n : Names) (a : Agrees n t) (l : Option Loop) (ss : Statements) → AreProperStatements ss → leave_loops (in_loop t base l) ss ≡ true → CleanBody t base n ss → U hand (body n l ss) (BodyAt t ss (inner_of t base l))
    body-stand hand n a l no_statements is loops clean = nothings
    body-stand hand n a l (ss ▹ x) is loops clean =
        both (body-stand hand n a l ss is.0 (both-true _ _ loops).0 (λ f b. clean f (inl b))) (code-stand hand n a l x is.1 (both-true _ _ loops).1 (λ f b. clean f (inr b)))

    other-stand : (p : Place) (n : Names) (a : Agrees n t) (l : Option Loop) (x : Otherwise) → IsProperOtherwise x → other_leaves (in_loop t base l) x ≡ true → ((f : Fault) → MisuseInOtherwise (environment n) x f → ⊥) → U p (other_body n l x) (OtherAt t x (inner_of t base l))
    other-stand p n a l nothing_else is loops clean = nothings
    other-stand p n a l (otherwise ss) is loops clean = body-stand p n a l ss is loops clean

    chain-stand : (p : Place) (n : Names) (a : Agrees n t) (l : Option Loop) (goes : Bool) (end : ℕ) (arms : Arms) → AreProperArms arms → arms_leave (in_loop t base l) arms ≡ true → CleanArms t base n arms →
        U p (chain n l (jump n.wide n.statement 0x04 end) (last_of t base n goes end) arms) (λ x y. EndsThere t base goes (base + end) y → ArmsAt t p arms (inner_of t base l) (base + end) x y)
    chain-stand p n a l goes end no_arms is loops clean = so nothings (λ x y same there. same)
    chain-stand p n a l goes end (arms ⊳ arm (no_items ▸ single e) negated ss) is loops clean =
        so (both (chain-stand p n a l true end arms is.0 (both-true _ _ loops).0 (λ f b. clean f (inl b)))
        (up (λ next x y. (p2 p3 p4 : ℕ) × ValueAt (with_hand t p) e x p2 × At (with_hand t p) p2 (takes_one 0 (jumps_unless negated next)) p3 × BodyAt t ss (inner_of t base l) p3 p4 × LastAt (with_hand t p) base goes (base + end) p4 y)
        (λ x y. widths.both (widths.both (widths.both (widths.value-alike n n.text n.statement e) (widths.jumps n.wide n.statement n.statement (zero_jump negated) x y)) (widths.body-alike n n.text n.statement l l (same-loop t base l) ss)) (last-alike t base n goes end))
        (λ next. four (value-stand n (with_hand t p) base (on-statement n t p a) e is.1.0.0 (λ f b. clean f (inr (inl (inr b))))) (unless-stand t.memory t.cog base t.table p negated n.wide n.statement next)
        (body-stand p n a l ss is.1.1 (both-true _ _ loops).1 (λ f b. clean f (inr (inr b)))) (last-stand (with_hand t p) base n goes end))))
        (λ x y r there. (r.0, r.2.0, r.2.1, r.2.2, r.1 tt, r.2.3, r.2.4, r.2.5, leads-on (with_hand t p) base goes (base + end) r.2.2 y r.2.6 there))
    chain-stand p n a l goes end (arms ⊳ arm _ negated ss) is loops clean = absurd is.1.0

    bodies-stand : (p : Place) (n : Names) (a : Agrees n t) (l : Option Loop) (end : ℕ) (arms : Arms) → AreProperChoices arms → arms_leave (in_loop t base l) arms ≡ true → CleanArms t base n arms →
        D p (case_bodies n l end arms) (λ i j x y. Bodies p n l (base + end) x i arms)
    bodies-stand p n a l end no_arms is loops clean = record { by = λ w at h. (h, tt); keeps = λ w. refl; exist = λ w near. (near, λ are. are) }
    bodies-stand p n a l end (arms ⊳ arm items negated ss) is loops clean =
        one-more p n l end arms items negated ss (bodies-stand p n a l end arms is.0 (both-true _ _ loops).0 (λ f b. clean f (inl b)))
        (three (drop-case-stand t.memory t.cog base t.table p) (body-stand p n a l ss is.1.3 (both-true _ _ loops).1 (λ f b. clean f (inr (inr b)))) (goes-stand t.memory t.cog base t.table p n.wide n.statement end))
