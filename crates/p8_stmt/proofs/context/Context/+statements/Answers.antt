use Rattle.std.proofs.Common.{OnOk, ℕ, ap, sym, ◌∙◌, subst, take, length, nat_lt, ◌||◌, false, ◌+◌}
use Rattle.p8_tree.specs.Views.{tree_of, course_of, action_of, arm_of, arms_of, statement_of, statements_of}
use Rattle.p8_tree.specs.declared.statements.Arm.{out-Arm}
use Rattle.p8_gen.specs.Pieces.{Piece, from_place, up_to_end, byte, jump}
use Rattle.p8_gen.specs.Expressions.{value}
use Rattle.p8_gen.specs.Statements.{inside, code, code_of, body, chain, all_tests, case_bodies}
use Rattle.p8_gen.specs.Writing.{Stands}
use Rattle.p8_gen.proofs.Widths.{Alike}
use Rattle.p8_stmt.specs.Walking.{names_at, loop_at, leap, arm_piece, branches, choices, bodies, case_piece, case_body, tests_of_arms, up_to_next, loop_piece}
use Rattle.p8_stmt.proofs.Walks.{Runs, up_ends, up_counts, up_keeps, same_end, same_jumps, branches_same, arm_same, case_ends, case_jumps, case_keeps, case_written, tests_alone, tests_same, loop_same, next_same, statements_next, arms_next, bodies_next, all_tests_next, arm_to_is, case_body_is, if_form, branch_none, branch_some, case_form, choice_none, choice_some, bodies_form, repeat_form}
use Rattle.p8_stmt.proofs.context.Context.+statements.Goals as goal

pub chain-returns-then-counts : goal.chain-returns-then-counts
chain-returns-then-counts t c = λ w stands.
    let n = names_at c.args.self.now in
    let l = loop_at c.args.self.now in
    let p = branches n l (action_of c.args.statement.now.kind) in
    let counted : Stands c.branches.new.out (p 0 w) = c.in_ok-branches.ensures w (c.counter-counter.ensures w stands) in
    c.if-counts.ensures.counts (up_to_end p w) (up_ends {p = p} (branches_same n l (action_of c.args.statement.now.kind)) w _ counted.ends) (up_counts {p = p} (branches_same n l (action_of c.args.statement.now.kind)) w _ counted.jumps)
    (stands.statement ∙ up_keeps {p = p} (branches_same n l (action_of c.args.statement.now.kind)) w)

pub arm-returns-then-counts : goal.arm-returns-then-counts
arm-returns-then-counts t c = λ w stands.
    let n = names_at c.args.self.now in
    let l = loop_at c.args.self.now in
    let p = arm_piece n l (leap n c.args.jumps c.args.end) (arm_of c.args.arm.now) in
    let counted : Stands c.arm_to.new.out (p 0 w) = c.in_ok-arm_to.ensures w (c.counter-counter.ensures w stands) in
    let same = arm_same n l c.args.jumps c.args.end (arm_of c.args.arm.now) in
    c.if-counts.ensures.counts (up_to_end p w) (up_ends {p = p} same w _ counted.ends) (up_counts {p = p} same w _ counted.jumps) (stands.statement ∙ up_keeps {p = p} same w)

pub repeat-returns-then-counts : goal.repeat-returns-then-counts
repeat-returns-then-counts t c = λ w stands.
    let n = names_at c.args.self.now in
    let p = loop_piece n (course_of c.args.course.now) (statements_of c.args.body.now) in
    let counted : Stands c.repeat_to.new.out (p 0 w) = c.in_ok-repeat_to.ensures w (c.counter-counter.ensures w stands) in
    let same = loop_same n (course_of c.args.course.now) (statements_of c.args.body.now) in
    c.if-counts.ensures.counts (up_to_end p w) (up_ends {p = p} same w _ counted.ends) (up_counts {p = p} same w _ counted.jumps) (stands.statement ∙ up_keeps {p = p} same w)

pub up_to_next-returns-then-counts : goal.up_to_next-returns-then-counts
up_to_next-returns-then-counts t c = λ w stands.
    let n = names_at c.args.self.now in
    let ss = statements_of c.args.body.now in
    let counted : Stands c.body_inside.new.out (body n (inside 0 c.args.quit c.args.counted) ss w) = c.in_ok-body_inside.ensures w (c.counter-counter.ensures w stands) in
    let p : ℕ → Piece = λ next. body n (inside next c.args.quit c.args.counted) ss in
    let same : (x y : ℕ) → Alike (p x) (p y) = λ x y. next_same n c.args.quit c.args.quit c.args.counted ss x y in
    c.if-counts.ensures.counts (up_to_next n c.args.quit c.args.counted ss w) (up_ends {p = p} same w _ counted.ends) (up_counts {p = p} same w _ counted.jumps) (stands.statement ∙ up_keeps {p = p} same w)

pub all_tests-returns-then-counts : goal.all_tests-returns-then-counts
all_tests-returns-then-counts t c = λ w stands.
    let n = names_at c.args.self.now in
    let l = loop_at c.args.self.now in
    let arms = arms_of c.args.arms.now in
    let counted : Stands c.tests_of_arms.new.out (tests_of_arms n arms w) = c.in_ok-tests_of_arms.ensures w (c.counter-counter.ensures w stands) in
    let same = tests_alone n l c.args.first c.args.before arms in
    c.if-counts.ensures.counts (all_tests n l c.args.first c.args.before arms w) (counted.ends ∙ same_end same w) (counted.jumps ∙ same_jumps same w) (stands.statement ∙ sym ((tests_same n l c.args.first c.args.first c.args.before c.args.before arms).keeps w))

pub case-returns-then-counts : goal.case-returns-then-counts
case-returns-then-counts t c = λ w stands.
    let n = names_at c.args.self.now in
    let l = loop_at c.args.self.now in
    let a = action_of c.args.statement.now.kind in
    let counted : Stands c.bodies.new.out (bodies n l a 0 (choices n l a 0 0 0 w)) = c.in_ok-bodies.ensures _ (c.in_ok-choices.ensures w (c.counter-counter.ensures w stands)) in
    c.if-counts.ensures.counts (case_piece n l a w) (case_ends n l a w _ counted.ends) (case_jumps n l a w _ counted.jumps) (stands.statement ∙ case_keeps n l a w)

pub case-returns : goal.case-returns
case-returns t c = λ w stands.
    let n = names_at c.args.self.now in
    let l = loop_at c.args.self.now in
    let a = action_of c.args.statement.now.kind in
    let first : Stands c.choices.new.out (choices n l a 0 0 0 w) = c.in_ok-choices.ensures w (c.counter-counter.ensures w stands) in
    let counted : Stands c.bodies.new.out (bodies n l a 0 (choices n l a 0 0 0 w)) = c.in_ok-bodies.ensures _ first in
    subst (λ v. OnOk c.bodies-else-counts.result (Stands c.bodies-else-counts.new.out v)) (case_written n l a w _ _ _ first.ends first.jumps counted.ends)
    (c.bodies-else-counts.ensures _ (c.in_ok-choices-2.ensures w (subst (λ o. Stands o w) (sym c.if-counts.ensures.writes) stands)))

pub body-loop-statement-preserved : goal.body-loop-statement-preserved
body-loop-statement-preserved t c = λ w stands.
    let n = names_at c.args.self.now in
    let l = loop_at c.args.self.now in
    let xs = c.args.statements.now in
    let before = body n l (statements_of (take c.loop-statement.statement-index xs)) w in
    subst (Stands c.statement.new.out) (statements_next n l xs c.loop-statement.statement-index c.statement-item.result w c.loop-statement-test.true)
    (subst (λ x. Stands c.statement.new.out (code n l (statement_of x) before)) c.statement-item.is (c.in_ok-statement.ensures before (c.loop-statement.invariant w stands)))

pub case_bodies-loop-arm-preserved : goal.case_bodies-loop-arm-preserved
case_bodies-loop-arm-preserved t c = λ w stands.
    let n = names_at c.args.self.now in
    let l = loop_at c.args.self.now in
    let xs = c.args.arms.now in
    let before = case_bodies n l c.args.end (arms_of (take c.loop-arm.arm-index xs)) w in
    subst (Stands c.case_body.new.out) (bodies_next n l c.args.end xs c.loop-arm.arm-index c.arm-item.result w c.loop-arm-test.true)
    (subst (λ x. Stands c.case_body.new.out (case_body n l c.args.end (arm_of x) before)) c.arm-item.is (c.in_ok-case_body.ensures before (c.loop-arm.invariant w stands)))

pub statement-returns : goal.statement-returns
statement-returns t c = λ w stands.
    let n = record (names_at c.args.self.now) { statement = c.args.statement.now.place } in
    let piece = code_of n (loop_at c.args.self.now) (action_of c.args.statement.now.kind) in
    let inside = record w { statement = c.args.statement.now.place } in
    let outer = c.at_statement-outer.ensures.before ∙ stands.statement in
    let done = c.in_ok-action.ensures inside (c.at_statement-outer.ensures.stands w stands) in
    subst (λ p. Stands c.at_statement.new.self (record (piece inside) { statement = p })) outer (c.at_statement.ensures.stands (piece inside) done)

pub action-returns-in-Repeat : goal.action-returns-in-Repeat
action-returns-in-Repeat t c =
    let n = names_at c.args.self.now in
    let l = loop_at c.args.self.now in
    subst (Runs c.args.out.now c.repeat.result c.repeat.new.out)
    (ap (λ ss. up_to_end (loop_piece n (course_of c.in-Repeat.course) (statements_of ss))) c.deref.ensures.value ∙ repeat_form n l c.args.statement.now.kind c.in-Repeat.course c.in-Repeat.body c.in-Repeat.is)
    c.repeat.ensures

pub action-returns-in-If : goal.action-returns-in-If
action-returns-in-If t c =
    let n = names_at c.args.self.now in
    let l = loop_at c.args.self.now in
    subst (Runs c.args.out.now c.chain.result c.chain.new.out) (if_form n l c.args.statement.now.kind c.in-If.field-0 c.in-If.field-1 c.in-If.is) c.chain.ensures

pub action-returns-in-Case : goal.action-returns-in-Case
action-returns-in-Case t c =
    let n = names_at c.args.self.now in
    let l = loop_at c.args.self.now in
    subst (Runs c.args.out.now c.case.result c.case.new.out) (case_form n l c.args.statement.now.kind c.in-Case.field-0 c.in-Case.field-1 c.in-Case.field-2 c.in-Case.is) c.case.ensures

pub arms-loop-index-preserved : goal.arms-loop-index-preserved
arms-loop-index-preserved t c = λ w stands.
    let n = names_at c.args.self.now in
    let l = loop_at c.args.self.now in
    let xs = c.args.arms.now in
    let i = c.loop-index.index in
    let here = c.args.last_jumps || nat_lt (i + 1) (length xs) in
    let before = chain n l (jump n.wide n.statement 0x04 c.args.end) (leap n (c.args.last_jumps || nat_lt i (length xs)) c.args.end) (arms_of (take i xs)) w in
    subst (Stands c.arm.new.out) (arms_next n l c.args.last_jumps c.args.end xs i c.index-arms-index.result w (leap n here c.args.end) c.loop-index-test.true)
    (subst (λ x. Stands c.arm.new.out (up_to_end (arm_piece n l (leap n here c.args.end) (arm_of x)) before)) c.index-arms-index.is
    (subst (λ t. Stands c.arm.new.out (up_to_end (arm_piece n l (leap n t c.args.end) (arm_of c.index-arms-index.result)) before)) c.jumps_away-jumps.ensures
    (c.in_ok-arm.ensures before (c.loop-index.invariant w stands))))

pub arm_to-returns : goal.arm_to-returns
arm_to-returns t c = λ w stands.
    let n = names_at c.args.self.now in
    let l = loop_at c.args.self.now in
    subst (λ v. OnOk c.leap.result (Stands c.leap.new.out v))
    (arm_to_is n l (leap n c.args.jumps c.args.end) c.args.arm.now c.as_slice.result.now c.zero_jump.result c.deref.result.now c.args.next w c.as_slice.ensures c.zero_jump.ensures c.deref.ensures.value)
    (c.leap.ensures _ (c.in_ok-body.ensures _ (c.in_ok-jump.ensures _ (c.in_ok-test_of.ensures w stands))))

pub case_body-returns : goal.case_body-returns
case_body-returns t c = λ w stands.
    let n = names_at c.args.self.now in
    let l = loop_at c.args.self.now in
    subst (λ v. OnOk c.jump.result (Stands c.jump.new.out v)) (case_body_is n l c.args.end c.args.arm.now c.deref.result.now w c.deref.ensures.value)
    (c.jump.ensures _ (c.in_ok-body.ensures _ (c.in_ok-byte.ensures w stands)))

pub placed_tests-loop-arm-preserved : goal.placed_tests-loop-arm-preserved
placed_tests-loop-arm-preserved t c =
    let n = names_at c.args.self.now in
    let l = loop_at c.args.self.now in
    let xs = c.args.arms.now in
    let i = c.loop-arm.arm-index in
    let bodies_before = case_bodies n l 0 (arms_of (take i xs)) (from_place c.args.first c.args.before) in (
      λ w stands.
          subst (Stands c.tests.new.out)
          (all_tests_next n l c.args.first c.args.before c.loop-arm.bodies.end xs i c.arm-item.result c.as_slice.result.now w c.loop-arm-test.true (c.as_slice.ensures ∙ ap (λ x. (out-Arm x).tests) c.arm-item.is) c.loop-arm.invariant.1.ends)
          (c.in_ok-tests.ensures (all_tests n l c.args.first c.args.before (arms_of (take i xs)) w) (c.loop-arm.invariant.0 w stands)),
      subst (Stands c.case_body.new.out) (bodies_next n l 0 xs i c.arm-item.result (from_place c.args.first c.args.before) c.loop-arm-test.true)
          (subst (λ x. Stands c.case_body.new.out (case_body n l 0 (arm_of x) bodies_before)) c.arm-item.is (c.in_ok-case_body.ensures bodies_before c.loop-arm.invariant.1)),
    )

pub bodies-returns-in-Case : goal.bodies-returns-in-Case
bodies-returns-in-Case t c =
    let n = names_at c.args.self.now in
    let l = loop_at c.args.self.now in
    subst (Runs c.args.out.now c.case_bodies.result c.case_bodies.new.out)
    (ap (λ xs. case_bodies n l c.args.end (arms_of xs)) c.deref.ensures.value ∙ bodies_form n l c.args.statement.now.kind c.in-Case.field-0 c.in-Case.arms c.in-Case.field-2 c.args.end c.in-Case.is)
    c.case_bodies.ensures

pub branches-returns-in-None : goal.branches-returns-in-None
branches-returns-in-None t c =
    let n = names_at c.args.self.now in
    let l = loop_at c.args.self.now in
    subst (Runs c.args.out.now c.arms.result c.arms.new.out)
    (ap (λ xs. chain n l (jump n.wide n.statement 0x04 c.args.end) (leap n false c.args.end) (arms_of xs)) c.deref.ensures.value
    ∙ branch_none n l c.args.statement.now.kind c.in-If.arms c.in-If.rest c.args.end c.in-If.is c.in-None.is)
    c.arms.ensures

pub branches-returns-in_ok-arms-in-Some : goal.branches-returns-in_ok-arms-in-Some
branches-returns-in_ok-arms-in-Some t c = λ w stands.
    let n = names_at c.args.self.now in
    let l = loop_at c.args.self.now in
    let far = jump n.wide n.statement 0x04 c.args.end in
    subst (λ v. OnOk c.body.result (Stands c.body.new.out v))
    (ap (λ ss. body n l (statements_of ss) (chain n l far far (arms_of c.deref-in-Some.result.now) w)) c.deref-in-Some-2.ensures.value
    ∙ ap (λ xs. body n l (statements_of c.in-Some.body.items) (chain n l far far (arms_of xs) w)) c.deref-in-Some.ensures.value
    ∙ ap (λ (p : Piece). p w) (branch_some n l c.args.statement.now.kind c.in-If.arms c.in-If.rest c.in-Some.body c.args.end c.in-If.is c.in-Some.is))
    (c.body.ensures _ (c.in_ok-arms-in-Some.ensures w stands))

pub choices-returns-in-None : goal.choices-returns-in-None
choices-returns-in-None t c = λ w stands.
    let n = names_at c.args.self.now in
    let l = loop_at c.args.self.now in
    subst (λ v. OnOk c.jump.result (Stands c.jump.new.out v))
    (ap (λ xs. jump n.wide n.statement 0x04 c.args.end (byte 0x0C (all_tests n l c.args.first c.args.before (arms_of xs) (value n (tree_of c.in-Case.value) w)))) c.deref.ensures.value
    ∙ ap (λ (p : Piece). p w) (choice_none n l c.args.statement.now.kind c.in-Case.value c.in-Case.arms c.in-Case.rest c.args.first c.args.before c.args.end c.in-Case.is c.in-None.is))
    (c.jump.ensures _ (c.in_ok-byte-in-Case.ensures _ (c.in_ok-all_tests-in-Case.ensures _ (c.in_ok-value-in-Case.ensures w stands))))

pub choices-returns-in_ok-body-in-Some : goal.choices-returns-in_ok-body-in-Some
choices-returns-in_ok-body-in-Some t c = λ w stands.
    let n = names_at c.args.self.now in
    let l = loop_at c.args.self.now in
    let tested = byte 0x0C (all_tests n l c.args.first c.args.before (arms_of c.deref.result.now) (value n (tree_of c.in-Case.value) w)) in
    subst (λ v. OnOk c.jump-in-Some.result (Stands c.jump-in-Some.new.out v))
    (ap (λ ss. jump n.wide n.statement 0x04 c.args.end (body n l (statements_of ss) tested)) c.deref-in-Some.ensures.value
    ∙ ap (λ xs. jump n.wide n.statement 0x04 c.args.end (body n l (statements_of c.in-Some.body.items) (byte 0x0C (all_tests n l c.args.first c.args.before (arms_of xs) (value n (tree_of c.in-Case.value) w))))) c.deref.ensures.value
    ∙ ap (λ (p : Piece). p w) (choice_some n l c.args.statement.now.kind c.in-Case.value c.in-Case.arms c.in-Case.rest c.in-Some.body c.args.first c.args.before c.args.end c.in-Case.is c.in-Some.is))
    (c.jump-in-Some.ensures _ (c.in_ok-body-in-Some.ensures _ (c.in_ok-byte-in-Case.ensures _ (c.in_ok-all_tests-in-Case.ensures _ (c.in_ok-value-in-Case.ensures w stands)))))
