-- The walk over statements: how long pieces are, arms and statements one after the other, and the forms as the code has them.
use Rattle.std.proofs.Common.{◌≡◌, ℕ, ◌+◌, ◌<◌, ◌≤◌, nat_lt, ◌||◌, Bool, true, false, List, [], ◌∷◌, Option, Some, None, Vec, length, take, get_or, refl, sym, ap, ap₂, ◌∙◌, subst, arith}
use Rattle.std.specs.Prelude.{Result, OnOk}
use Rattle.std.specs.declared.alloc.Global.{Global}
use Rattle.std.proofs.lemmas.List.{take_more}
use Rattle.std.proofs.lemmas.Bool.Decides.{nat_tests}
use Rattle.p8_tree.specs.declared.expressions.Expr as expr
use Rattle.p8_tree.specs.declared.expressions.Item as item
use Rattle.p8_tree.specs.declared.statements.StmtKind as stmt_kind
use Rattle.p8_tree.specs.declared.statements.StmtKind.TheVariants as stmt_case
use Rattle.p8_tree.specs.declared.statements.Stmt as stmt
use Rattle.p8_tree.specs.declared.statements.Arm as code_arm
use Rattle.p8_tree.specs.declared.statements.Arm.{out-Arm, roll-out-Arm}
use Rattle.p8_tree.specs.declared.statements.Loop as loop
use Rattle.p8_tree.specs.Expressions.{Tree, Item, Items, single, range, no_items, ◌▸◌}
use Rattle.p8_tree.specs.Statements.{Course, Forever, Count, Before, After, From, Action, Do, If, Case, Repeat, Otherwise, nothing_else, otherwise, Arm, arm, Statements, Arms, no_arms, ◌⊳◌}
use Rattle.p8_tree.specs.Views.{tree_of, item_of, items_of, items_after, course_of, action_of, arm_of, arms_of, statement_of, statements_of}
use Rattle.p8_tree.specs.Bridges.{other_body, arm_is, if_is, case_is, repeat_is, items_of-push, statements_of-push, arms_of-push}
use Rattle.p8_gen.specs.Names.{Names}
use Rattle.p8_gen.specs.Pieces.{Written, from_place, Piece, nothing, ◌⨾◌, up_to_end, up_to_jumps, byte, jump}
use Rattle.p8_gen.specs.Expressions.{value}
use Rattle.p8_gen.specs.Statements.{Loop, SameLoop, inside, zero_jump, test_of, tests, step_effect, plain_name, code, code_of, body, chain, all_tests, case_bodies}
use Rattle.p8_gen.specs.Writing.{Stands}
use Rattle.p8_gen.specs.declared.writer.Writer.{Writer}
use Rattle.p8_gen.proofs.Widths.{Alike, nothings, same-one, bytes, jumps, steps, both, ups, up-jumps, froms, either, value-alike, test-alike, tests-alike, step-alike, body-alike, chain-alike, other-alike, all-tests-alike, bodies-alike}
use Rattle.p8_stmt.specs.Walking.{leap, arm_piece, branches, choices, bodies, case_piece, case_body, tests_of_arms, head, first_test, pass_end, looped, loop_piece}

-- ---- where pieces end

pub same_end : {a b : Piece} → Alike a b → (w : Written) → (a w).end ≡ (b w).end
same_end alike w = let same = alike.ends w w refl in omega (arith, same)

pub same_jumps : {a b : Piece} → Alike a b → (w : Written) → (a w).jumps ≡ (b w).jumps
same_jumps alike w = alike.counts w w refl

-- a piece that is told its end ends where it ends when it is told anything else, and has as many jumps
pub up_ends : {p : ℕ → Piece} → ((x y : ℕ) → Alike (p x) (p y)) → (w : Written) (e : ℕ) → e ≡ (p 0 w).end → e ≡ (up_to_end p w).end
up_ends {p} alike w e is = is ∙ same_end (alike 0 (p 0 w).end) w

pub up_counts : {p : ℕ → Piece} → ((x y : ℕ) → Alike (p x) (p y)) → (w : Written) (j : ℕ) → j ≡ (p 0 w).jumps → j ≡ (up_to_end p w).jumps
up_counts {p} alike w j is = is ∙ same_jumps (alike 0 (p 0 w).end) w

-- after a piece that is told its end the same statement goes on
pub up_keeps : {p : ℕ → Piece} → ((x y : ℕ) → Alike (p x) (p y)) → (w : Written) → w.statement ≡ (up_to_end p w).statement
up_keeps {p} alike w = sym ((alike (p 0 w).end 0).keeps w)

same_loop : (l : Option Loop) → SameLoop l l
same_loop None = tt
same_loop (Some l) = refl

module _ (n : Names) where
  body_same : (l k : Option Loop) → SameLoop l k → (ss : Statements) → Alike (body n l ss) (body n k ss)
  body_same l k like ss = body-alike n n.text n.statement l k like ss

  value_same : (e : Tree) → Alike (value n e) (value n e)
  value_same e = value-alike n n.text n.statement e

  leap_same : (t : Bool) (x y : ℕ) → Alike (leap n t x) (leap n t y)
  leap_same t x y = either t (jumps n.wide n.statement n.statement _ x y) nothings

  module _ (l : Option Loop) where
    pub branches_same : (a : Action) (x y : ℕ) → Alike (branches n l a x) (branches n l a y)
    branches_same (If arms nothing_else) x y = chain-alike n n.text n.statement l l (same_loop l) _ _ _ _ (jumps n.wide n.statement n.statement _ x y) nothings arms
    branches_same (If arms (otherwise ss)) x y =
        both (chain-alike n n.text n.statement l l (same_loop l) _ _ _ _ (jumps n.wide n.statement n.statement _ x y) (jumps n.wide n.statement n.statement _ x y) arms) (body_same l l (same_loop l) ss)
    branches_same (Do e) x y = nothings
    branches_same _ x y = nothings

    pub arm_same : (t : Bool) (end : ℕ) (a : Arm) (x y : ℕ) → Alike (arm_piece n l (leap n t end) a x) (arm_piece n l (leap n t end) a y)
    arm_same t end (arm items negated ss) x y =
        both (both (both (test-alike n n.text n.statement items) (jumps n.wide n.statement n.statement _ x y)) (body_same l l (same_loop l) ss)) (leap_same t end end)

    pub tests_same : (first last i j : ℕ) (arms : Arms) → Alike (all_tests n l first i arms) (all_tests n l last j arms)
    tests_same first last i j arms = all-tests-alike n n.text n.statement l l (same_loop l) first last i j arms

    choices_same : (a : Action) (first last i j x y : ℕ) → Alike (choices n l a first i x) (choices n l a last j y)
    choices_same (Case e arms other) first last i j x y =
        both (both (both (both (value_same e) (tests_same first last i j arms)) (bytes 0x0C)) (other-alike n n.text n.statement l l (same_loop l) other)) (jumps n.wide n.statement n.statement _ x y)
    choices_same (Do e) first last i j x y = nothings
    choices_same _ first last i j x y = nothings

    bodies_same : (a : Action) (x y : ℕ) → Alike (bodies n l a x) (bodies n l a y)
    bodies_same (Case e arms other) x y = bodies-alike n n.text n.statement l l (same_loop l) x y arms
    bodies_same (Do e) x y = nothings
    bodies_same _ x y = nothings

    -- where a CASE's choices end, and where it ends itself, as they are counted
    module _ (a : Action) (w : Written) where
      abbrev counted : Written
      counted = choices n l a 0 0 0 w

      first_is : (x : ℕ) → counted.end ≡ (choices n l a 0 0 x w).end
      first_is x = same_end (choices_same a 0 0 0 0 0 x) w

      before_is : (x : ℕ) → counted.jumps ≡ (choices n l a 0 0 x w).jumps
      before_is x = same_jumps (choices_same a 0 0 0 0 0 x) w

      placed_same : Alike (choices n l a 0 0 0 ⨾ bodies n l a 0) (choices n l a counted.end counted.jumps 0 ⨾ bodies n l a 0)
      placed_same = both (choices_same a 0 counted.end 0 counted.jumps 0 0) (bodies_same a 0 0)

      end_is : (bodies n l a 0 counted).end ≡ (bodies n l a 0 (choices n l a counted.end counted.jumps 0 w)).end
      end_is = same_end placed_same w

      -- what is written where a CASE's places were counted
      pub case_written : (first before end : ℕ) → first ≡ counted.end → before ≡ counted.jumps → end ≡ (bodies n l a 0 counted).end →
          bodies n l a end (choices n l a first before end w) ≡ case_piece n l a w
      case_written first before end f_is b_is e_is =
          let whole = (bodies n l a 0 (choices n l a counted.end counted.jumps 0 w)).end in
          ap₂ (λ f b. bodies n l a end (choices n l a f b end w)) (f_is ∙ first_is whole) (b_is ∙ before_is whole)
          ∙ ap (λ x. bodies n l a x (choices n l a (choices n l a 0 0 whole w).end (choices n l a 0 0 whole w).jumps x w)) (e_is ∙ end_is)

      case_same : (x y : ℕ) → Alike (up_to_jumps (λ first before. choices n l a first before x) ⨾ bodies n l a x) (up_to_jumps (λ first before. choices n l a first before y) ⨾ bodies n l a y)
      case_same x y = both (up-jumps (λ f g i j. choices_same a f g i j x y)) (bodies_same a x y)

      pub case_ends : (end : ℕ) → end ≡ (bodies n l a 0 counted).end → end ≡ (case_piece n l a w).end
      case_ends end is = up_ends {p = λ end. up_to_jumps (λ first before. choices n l a first before end) ⨾ bodies n l a end} case_same w end (is ∙ end_is)

      pub case_jumps : (jumps : ℕ) → jumps ≡ (bodies n l a 0 counted).jumps → jumps ≡ (case_piece n l a w).jumps
      case_jumps jumps is =
          up_counts {p = λ end. up_to_jumps (λ first before. choices n l a first before end) ⨾ bodies n l a end} case_same w jumps (is ∙ same_jumps placed_same w)

      pub case_keeps : w.statement ≡ (case_piece n l a w).statement
      case_keeps = up_keeps {p = λ end. up_to_jumps (λ first before. choices n l a first before end) ⨾ bodies n l a end} case_same w

    -- the tests alone are as long as the tests with their places
    pub tests_alone : (first before : ℕ) (arms : Arms) → Alike (tests_of_arms n arms) (all_tests n l first before arms)
    tests_alone first before no_arms = nothings
    tests_alone first before (arms ⊳ arm items negated ss) =
        both (tests_alone first before arms) (tests-alike n n.text n.statement 0 (case_bodies n l 0 arms (from_place first before)).end items)

  head_same : (c : Course) (x y : ℕ) → Alike (head n c x) (head n c y)
  head_same Forever x y = nothings
  head_same (Count e) x y = both (value_same e) (jumps n.wide n.statement n.statement _ x y)
  head_same (Before until e) x y = nothings
  head_same (After until e) x y = nothings
  head_same (From name a b step q) x y = both (value_same a) (same-one _)

  first_same : (c : Course) (x y : ℕ) → Alike (first_test n c x) (first_test n c y)
  first_same Forever x y = nothings
  first_same (Count e) x y = nothings
  first_same (Before until e) x y = both (value_same e) (jumps n.wide n.statement n.statement _ x y)
  first_same (After until e) x y = nothings
  first_same (From name a b step q) x y = nothings

  pass_same : (c : Course) (x y : ℕ) → Alike (pass_end n c x) (pass_end n c y)
  pass_same Forever x y = jumps n.wide n.statement n.statement _ x y
  pass_same (Count e) x y = jumps n.wide n.statement n.statement _ x y
  pass_same (Before until e) x y = jumps n.wide n.statement n.statement _ x y
  pass_same (After until e) x y = both (value_same e) (jumps n.wide n.statement n.statement _ x y)
  pass_same (From name a b step q) x y =
      both (both (both (step-alike n n.text n.statement step) (value_same a)) (value_same b)) (steps n.wide n.statement n.statement x y (plain_name n name (step_effect step)))

  pub next_same : (x y : ℕ) (counted : Bool) (ss : Statements) (v w : ℕ) → Alike (body n (inside v x counted) ss) (body n (inside w y counted) ss)
  next_same x y counted ss v w = body_same (inside v x counted) (inside w y counted) refl ss

  looped_same : (c : Course) (ss : Statements) (i j x y : ℕ) → Alike (looped n c ss i x) (looped n c ss j y)
  looped_same c ss i j x y =
      either _ (body_same (inside i x false) (inside j y false) refl ss) (ups (λ v w. next_same x y _ ss v w))

  pub loop_same : (c : Course) (ss : Statements) (x y : ℕ) → Alike (loop_piece n c ss x) (loop_piece n c ss y)
  loop_same c ss x y = both (head_same c x y) (froms (λ i j. both (both (first_same c x y) (looped_same c ss i j x y)) (pass_same c i j)))

-- ---- one after the other

module _ (n : Names) (l : Option Loop) where
  pub statements_next : (xs : List stmt.Stmt) (i : ℕ) (d : stmt.Stmt) (w : Written) → i < length xs → code n l (statement_of (get_or xs i d)) (body n l (statements_of (take i xs)) w) ≡ body n l (statements_of (take (i + 1) xs)) w
  statements_next xs i d w lt =
      sym (ap (λ ss. body n l (statements_of ss) w) (take_more xs i d lt) ∙ ap (λ ss. body n l ss w) (statements_of-push (take i xs) (get_or xs i d)))

  -- an arm after others, each of which jumps to the end
  arm_behind : (further last : Piece) (xs : Arms) (x : Arm) (w : Written) → up_to_end (arm_piece n l last x) (chain n l further further xs w) ≡ chain n l further last (xs ⊳ x) w
  arm_behind further last xs (arm items negated ss) w = refl

  or_less : (t : Bool) (i k : ℕ) → i < k → (t || nat_lt i k) ≡ true
  or_less true i k lt = refl
  or_less false i k lt = grind (arith, nat_tests)

  jumps_first : (t : Bool) (i k end : ℕ) → i < k → leap n (t || nat_lt i k) end ≡ jump n.wide n.statement 0x04 end
  jumps_first t i k end lt = let is = or_less t i k lt in ap (λ t. leap n t end) is

  pub arms_next : (t : Bool) (end : ℕ) (xs : List code_arm.Arm) (i : ℕ) (d : code_arm.Arm) (w : Written) (last : Piece) → i < length xs →
      up_to_end (arm_piece n l last (arm_of (get_or xs i d))) (chain n l (jump n.wide n.statement 0x04 end) (leap n (t || nat_lt i (length xs)) end) (arms_of (take i xs)) w)
      ≡ chain n l (jump n.wide n.statement 0x04 end) last (arms_of (take (i + 1) xs)) w
  arms_next t end xs i d w last lt =
      let far = jump n.wide n.statement 0x04 end in
      ap (λ p. up_to_end (arm_piece n l last (arm_of (get_or xs i d))) (chain n l far p (arms_of (take i xs)) w)) (jumps_first t i (length xs) end lt)
      ∙ arm_behind far last (arms_of (take i xs)) (arm_of (get_or xs i d)) w
      ∙ sym (ap (λ xs. chain n l far last (arms_of xs) w) (take_more xs i d lt) ∙ ap (λ xs. chain n l far last xs w) (arms_of-push (take i xs) (get_or xs i d)))

  body_behind : (end : ℕ) (xs : Arms) (x : Arm) (w : Written) → case_body n l end x (case_bodies n l end xs w) ≡ case_bodies n l end (xs ⊳ x) w
  body_behind end xs (arm items negated ss) w = refl

  pub bodies_next : (end : ℕ) (xs : List code_arm.Arm) (i : ℕ) (d : code_arm.Arm) (w : Written) → i < length xs → case_body n l end (arm_of (get_or xs i d)) (case_bodies n l end (arms_of (take i xs)) w) ≡ case_bodies n l end (arms_of (take (i + 1) xs)) w
  bodies_next end xs i d w lt =
      body_behind end (arms_of (take i xs)) (arm_of (get_or xs i d)) w
      ∙ sym (ap (λ xs. case_bodies n l end (arms_of xs) w) (take_more xs i d lt) ∙ ap (λ xs. case_bodies n l end xs w) (arms_of-push (take i xs) (get_or xs i d)))

-- the tests and the body of an arm
abbrev tests_in : Arm → Items
tests_in (arm items negated ss) = items

pub arm_form : (x : code_arm.Arm) → arm_of x ≡ arm (items_of (out-Arm x).tests) (out-Arm x).negated (statements_of (out-Arm x).body.items)
arm_form x = ap arm_of (sym (roll-out-Arm x)) ∙ arm_is (out-Arm x).tests (out-Arm x).negated (out-Arm x).body

module _ (n : Names) (l : Option Loop) where
  pub arm_to_is : (last : Piece) (x : code_arm.Arm) (ts : List item.Item) (code : ℕ) (ss : List stmt.Stmt) (next : ℕ) (w : Written) → ts ≡ (out-Arm x).tests → code ≡ zero_jump (out-Arm x).negated → ss ≡ (out-Arm x).body.items →
      last (body n l (statements_of ss) (jump n.wide n.statement code next (test_of n (items_of ts) w))) ≡ arm_piece n l last (arm_of x) next w
  arm_to_is last x ts code ss next w t c b =
      ap (λ ts. last (body n l (statements_of ss) (jump n.wide n.statement code next (test_of n (items_of ts) w)))) t
      ∙ ap (λ code. last (body n l (statements_of ss) (jump n.wide n.statement code next (test_of n (items_of (out-Arm x).tests) w)))) c
      ∙ ap (λ ss. last (body n l (statements_of ss) (jump n.wide n.statement (zero_jump (out-Arm x).negated) next (test_of n (items_of (out-Arm x).tests) w)))) b
      ∙ sym (ap (λ a. arm_piece n l last a next w) (arm_form x))

  pub case_body_is : (end : ℕ) (x : code_arm.Arm) (ss : List stmt.Stmt) (w : Written) → ss ≡ (out-Arm x).body.items → jump n.wide n.statement 0x04 end (body n l (statements_of ss) (byte 0x0C w)) ≡ case_body n l end (arm_of x) w
  case_body_is end x ss w b = ap (λ ss. jump n.wide n.statement 0x04 end (body n l (statements_of ss) (byte 0x0C w))) b ∙ sym (ap (λ a. case_body n l end a w) (arm_form x))

module _ (n : Names) where
  tests_behind : (l : Option Loop) (first before : ℕ) (xs : Arms) (x : Arm) (w : Written) →
      tests n (case_bodies n l 0 xs (from_place first before)).end (tests_in x) (all_tests n l first before xs w) ≡ all_tests n l first before (xs ⊳ x) w
  tests_behind l first before xs (arm items negated ss) w = refl

  pub all_tests_next : (l : Option Loop) (first before to : ℕ) (xs : List code_arm.Arm) (i : ℕ) (d : code_arm.Arm) (ts : List item.Item) (w : Written) → i < length xs → ts ≡ (out-Arm (get_or xs i d)).tests →
      to ≡ (case_bodies n l 0 (arms_of (take i xs)) (from_place first before)).end →
      tests n to (items_of ts) (all_tests n l first before (arms_of (take i xs)) w) ≡ all_tests n l first before (arms_of (take (i + 1) xs)) w
  all_tests_next l first before to xs i d ts w lt is at =
      let tested = all_tests n l first before (arms_of (take i xs)) w in
      let x = get_or xs i d in
      ap (λ to. tests n to (items_of ts) tested) at
      ∙ ap (λ items. tests n (case_bodies n l 0 (arms_of (take i xs)) (from_place first before)).end items tested) (ap items_of is ∙ sym (ap tests_in (arm_form x)))
      ∙ tests_behind l first before (arms_of (take i xs)) (arm_of x) w
      ∙ sym (ap (λ xs. all_tests n l first before (arms_of xs) w) (take_more xs i d lt) ∙ ap (λ xs. all_tests n l first before xs w) (arms_of-push (take i xs) x))

  alone_behind : (xs : Arms) (x : Arm) (w : Written) → tests n 0 (tests_in x) (tests_of_arms n xs w) ≡ tests_of_arms n (xs ⊳ x) w
  alone_behind xs (arm items negated ss) w = refl

  pub tests_of_arms_next : (xs : List code_arm.Arm) (i : ℕ) (d : code_arm.Arm) (ts : List item.Item) (w : Written) → i < length xs → ts ≡ (out-Arm (get_or xs i d)).tests →
      tests n 0 (items_of ts) (tests_of_arms n (arms_of (take i xs)) w) ≡ tests_of_arms n (arms_of (take (i + 1) xs)) w
  tests_of_arms_next xs i d ts w lt is =
      let before = tests_of_arms n (arms_of (take i xs)) w in
      let x = get_or xs i d in
      ap (λ items. tests n 0 items before) (ap items_of is ∙ sym (ap tests_in (arm_form x)))
      ∙ alone_behind (arms_of (take i xs)) (arm_of x) w
      ∙ sym (ap (λ xs. tests_of_arms n (arms_of xs) w) (take_more xs i d lt) ∙ ap (λ xs. tests_of_arms n xs w) (arms_of-push (take i xs) x))

  test_behind : (to : ℕ) (xs : Items) (x : Item) (w : Written) → tests n to (no_items ▸ x) (tests n to xs w) ≡ tests n to (xs ▸ x) w
  test_behind to xs (single e) w = refl
  test_behind to xs (range a b) w = refl

  pub tests_next : (to : ℕ) (xs : List item.Item) (i : ℕ) (d : item.Item) (w : Written) → i < length xs → tests n to (no_items ▸ item_of (get_or xs i d)) (tests n to (items_of (take i xs)) w) ≡ tests n to (items_of (take (i + 1) xs)) w
  tests_next to xs i d w lt =
      test_behind to (items_of (take i xs)) (item_of (get_or xs i d)) w
      ∙ sym (ap (λ es. tests n to (items_of es) w) (take_more xs i d lt) ∙ ap (λ es. tests n to es w) (items_of-push (take i xs) (get_or xs i d)))

-- an IF's test is one
pub no_one_test : (n : Names) (xs : List item.Item) (w : Written) → 2 ≤ length xs → w ≡ test_of n (items_of xs) w
no_one_test n [] w many = absurd (omega arith)
no_one_test n (x ∷ []) w many = absurd (omega arith)
no_one_test n (x ∷ y ∷ xs) w many = go no_items (item_of x) (item_of y) xs
  where
    go : (before : Items) (a b : Item) (xs : List item.Item) → w ≡ test_of n (items_after ((before ▸ a) ▸ b) xs) w
    go before a b [] = refl
    go before a b (z ∷ zs) = go (before ▸ a) b (item_of z) zs

-- ---- the forms of statements, in a statement's own names

module _ (n : Names) (l : Option Loop) where
  repeat_piece : (c : Course) (ss : Statements) → up_to_end (loop_piece n c ss) ≡ code_of n l (Repeat c ss)
  repeat_piece Forever ss = refl
  repeat_piece (Count e) ss = refl
  repeat_piece (Before until e) ss = refl
  repeat_piece (After until e) ss = refl
  repeat_piece (From name a b step q) ss = refl

  pub repeat_form : (k : stmt_kind.StmtKind) (course : loop.Loop) (v : Vec stmt.Stmt Global) → k ≡ stmt_case.Repeat course v → up_to_end (loop_piece n (course_of course) (statements_of v.items)) ≡ code_of n l (action_of k)
  repeat_form k course v is = repeat_piece (course_of course) (statements_of v.items) ∙ sym (ap (code_of n l) (ap action_of is ∙ repeat_is course v))

  if_action : (k : stmt_kind.StmtKind) (v : Vec code_arm.Arm Global) (o : Option (Vec stmt.Stmt Global)) → k ≡ stmt_case.If v o → action_of k ≡ If (arms_of v.items) (other_body o)
  if_action k v o is = ap action_of is ∙ if_is v o

  if_piece : (arms : Arms) (o : Otherwise) → up_to_end (branches n l (If arms o)) ≡ code_of n l (If arms o)
  if_piece arms nothing_else = refl
  if_piece arms (otherwise ss) = refl

  pub if_form : (k : stmt_kind.StmtKind) (v : Vec code_arm.Arm Global) (o : Option (Vec stmt.Stmt Global)) → k ≡ stmt_case.If v o → up_to_end (branches n l (action_of k)) ≡ code_of n l (action_of k)
  if_form k v o is = subst (λ a. up_to_end (branches n l a) ≡ code_of n l a) (sym (if_action k v o is)) (if_piece (arms_of v.items) (other_body o))

  pub branch_none : (k : stmt_kind.StmtKind) (v : Vec code_arm.Arm Global) (o : Option (Vec stmt.Stmt Global)) (end : ℕ) → k ≡ stmt_case.If v o → o ≡ None →
      chain n l (jump n.wide n.statement 0x04 end) nothing (arms_of v.items) ≡ branches n l (action_of k) end
  branch_none k v o end is none = ap (λ o. branches n l (If (arms_of v.items) (other_body o)) end) (sym none) ∙ sym (ap (λ a. branches n l a end) (if_action k v o is))

  pub branch_some : (k : stmt_kind.StmtKind) (v : Vec code_arm.Arm Global) (o : Option (Vec stmt.Stmt Global)) (u : Vec stmt.Stmt Global) (end : ℕ) → k ≡ stmt_case.If v o → o ≡ Some u →
      (chain n l (jump n.wide n.statement 0x04 end) (jump n.wide n.statement 0x04 end) (arms_of v.items) ⨾ body n l (statements_of u.items)) ≡ branches n l (action_of k) end
  branch_some k v o u end is some = ap (λ o. branches n l (If (arms_of v.items) (other_body o)) end) (sym some) ∙ sym (ap (λ a. branches n l a end) (if_action k v o is))

  case_action : (k : stmt_kind.StmtKind) (x : expr.Expr) (v : Vec code_arm.Arm Global) (o : Option (Vec stmt.Stmt Global)) → k ≡ stmt_case.Case x v o → action_of k ≡ Case (tree_of x) (arms_of v.items) (other_body o)
  case_action k x v o is = ap action_of is ∙ case_is x v o

  pub case_form : (k : stmt_kind.StmtKind) (x : expr.Expr) (v : Vec code_arm.Arm Global) (o : Option (Vec stmt.Stmt Global)) → k ≡ stmt_case.Case x v o → case_piece n l (action_of k) ≡ code_of n l (action_of k)
  case_form k x v o is = subst (λ a. case_piece n l a ≡ code_of n l a) (sym (case_action k x v o is)) refl

  pub choice_none : (k : stmt_kind.StmtKind) (x : expr.Expr) (v : Vec code_arm.Arm Global) (o : Option (Vec stmt.Stmt Global)) (first before end : ℕ) → k ≡ stmt_case.Case x v o → o ≡ None →
      (value n (tree_of x) ⨾ all_tests n l first before (arms_of v.items) ⨾ byte 0x0C ⨾ jump n.wide n.statement 0x04 end) ≡ choices n l (action_of k) first before end
  choice_none k x v o first before end is none =
      ap (λ o. choices n l (Case (tree_of x) (arms_of v.items) (other_body o)) first before end) (sym none) ∙ sym (ap (λ a. choices n l a first before end) (case_action k x v o is))

  pub choice_some : (k : stmt_kind.StmtKind) (x : expr.Expr) (v : Vec code_arm.Arm Global) (o : Option (Vec stmt.Stmt Global)) (u : Vec stmt.Stmt Global) (first before end : ℕ) → k ≡ stmt_case.Case x v o → o ≡ Some u →
      (value n (tree_of x) ⨾ all_tests n l first before (arms_of v.items) ⨾ byte 0x0C ⨾ body n l (statements_of u.items) ⨾ jump n.wide n.statement 0x04 end) ≡ choices n l (action_of k) first before end
  choice_some k x v o u first before end is some =
      ap (λ o. choices n l (Case (tree_of x) (arms_of v.items) (other_body o)) first before end) (sym some) ∙ sym (ap (λ a. choices n l a first before end) (case_action k x v o is))

  pub bodies_form : (k : stmt_kind.StmtKind) (x : expr.Expr) (v : Vec code_arm.Arm Global) (o : Option (Vec stmt.Stmt Global)) (end : ℕ) → k ≡ stmt_case.Case x v o → case_bodies n l end (arms_of v.items) ≡ bodies n l (action_of k) end
  bodies_form k x v o end is = sym (ap (λ a. bodies n l a end) (case_action k x v o is))

-- ---- what a writer does, whatever code it stands for

abbrev pub Runs : {T E : Type 0} → Writer → Result T E → Writer → Piece → Type 0
Runs old r new p = (w : Written) → Stands old w → OnOk r (Stands new (p w))
