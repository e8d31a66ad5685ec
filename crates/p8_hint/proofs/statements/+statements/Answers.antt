use Rattle.std.proofs.Common.{◌≡◌, ◌++◌, [], OnOk, sym, ap, ◌∙◌, subst, append_assoc, append-nil, arith}
use Rattle.std.proofs.lemmas.Grind.{common_steps}
use Rattle.p8_tree.specs.Views.{tree_of, arms_of, statement_of}
use Rattle.p8_hint.specs.Spots.{bare_of, behind_of, in_statement, in_tree, in_arms, in_cases}
use Rattle.p8_hint.specs.SpotViews.{spots_of}
use Rattle.p8_hint.proofs.Rows.{arms_next, block_next, block_end, three, told_of, cases_next, no_other, some_other, if_spots, case_spots, repeat_spots, arm_spots, choice_spots}
use Rattle.p8_hint.proofs.statements.+statements.Goals as goal

pub put_block-loop-index-preserved : goal.put_block-loop-index-preserved
put_block-loop-index-preserved t c =
    let d = c.index-statements-index.result in
    let next = c.place_at-next.result in
    let old = spots_of c.loop-index.spots.items in
    block_next c.args.statements.now c.loop-index.index d (spots_of c.args.spots.now.items) old c.loop-index-test.true c.index-statements-index.is c.loop-index.invariant
    (three old (bare_of (statement_of d) next) (in_statement (statement_of d)) (behind_of (statement_of d) next) c.in_ok-put_bare.ensures c.in_ok-put_statement.ensures c.in_ok-put_behind_endless.ensures
    ∙ ap (λ p. old ++ told_of d p) c.place_at-next.ensures)

pub put_block-returns : goal.put_block-returns
put_block-returns t c = block_end c.args.statements.now c.loop-index.index (spots_of c.args.spots.now.items) (spots_of c.loop-index.spots.items) (omega arith) c.loop-index.invariant

pub put_arm-returns : goal.put_arm-returns
put_arm-returns t c =
    subst (λ m. OnOk c.put_block.result (spots_of c.put_block.new.spots.items ≡ spots_of c.args.spots.now.items ++ m))
    (arm_spots c.args.arm.now c.as_slice-2.result.now c.as_slice.result.now c.deref.result.now c.as_slice.ensures c.as_slice-2.ensures c.deref.ensures.value)
    (grind (arith, common_steps))

pub put_arms-loop-arm-preserved : goal.put_arms-loop-arm-preserved
put_arms-loop-arm-preserved t c =
    arms_next c.args.arms.now c.loop-arm.arm-index c.arm-item.result (spots_of c.args.spots.now.items) (spots_of c.loop-arm.spots.items) c.loop-arm-test.true c.arm-item.is c.loop-arm.invariant c.in_ok-put_arm.ensures

pub put_cases-loop-arm-preserved : goal.put_cases-loop-arm-preserved
put_cases-loop-arm-preserved t c =
    cases_next c.args.arms.now c.loop-arm.arm-index c.arm-item.result (spots_of c.args.spots.now.items) (spots_of c.loop-arm.spots.items) c.loop-arm-test.true c.arm-item.is c.loop-arm.invariant c.in_ok-put_choice.ensures

pub put_choice-returns : goal.put_choice-returns
put_choice-returns t c =
    subst (λ m. OnOk c.put_block.result (spots_of c.put_block.new.spots.items ≡ spots_of c.args.spots.now.items ++ m))
    (choice_spots c.args.arm.now c.as_slice.result.now c.deref.result.now c.as_slice.ensures c.deref.ensures.value)
    (grind (arith, common_steps))

pub put_statement-returns-in-None : goal.put_statement-returns-in-None
put_statement-returns-in-None t c =
    c.in_ok-put_arms-in-If.ensures
    ∙ ap (λ m. spots_of c.args.spots.now.items ++ m)
    (sym (append-nil (in_arms (arms_of c.deref.result.now))) ∙ if_spots c.args.statement.now.kind c.in-If.arms c.in-If.rest c.deref.result.now [] c.in-If.is c.deref.ensures.value (no_other c.in-If.rest c.in-None.is))

pub put_statement-returns-in-Some : goal.put_statement-returns-in-Some
put_statement-returns-in-Some t c =
    subst (λ m. OnOk c.put_block.result (spots_of c.put_block.new.spots.items ≡ spots_of c.args.spots.now.items ++ m))
    (if_spots c.args.statement.now.kind c.in-If.arms c.in-If.rest c.deref.result.now _ c.in-If.is c.deref.ensures.value (some_other c.in-If.rest c.in-Some.body c.deref-in-Some.result.now c.in-Some.is c.deref-in-Some.ensures.value))
    (grind (arith, common_steps))

pub put_statement-returns-in-None-rest : goal.put_statement-returns-in-None-rest
put_statement-returns-in-None-rest t c =
    let old = spots_of c.args.spots.now.items in
    let value = in_tree (tree_of c.in-Case.value) in
    let arms = in_cases (arms_of c.deref-in-Case.result.now) in
    c.in_ok-put_cases-in-Case.ensures ∙ (ap (λ b. b ++ arms) c.in_ok-put_tree-in-Case.ensures ∙ (append_assoc old value arms
    ∙ ap (λ m. old ++ m) (ap (λ m. value ++ m) (sym (append-nil arms)) ∙ case_spots c.args.statement.now.kind c.in-Case.value c.in-Case.arms c.in-Case.rest c.deref-in-Case.result.now [] c.in-Case.is c.deref-in-Case.ensures.value (no_other c.in-Case.rest c.in-None-rest.is))))

pub put_statement-returns-in-Some-rest : goal.put_statement-returns-in-Some-rest
put_statement-returns-in-Some-rest t c =
    subst (λ m. OnOk c.put_block-in-Some-rest.result (spots_of c.put_block-in-Some-rest.new.spots.items ≡ spots_of c.args.spots.now.items ++ m))
    (case_spots c.args.statement.now.kind c.in-Case.value c.in-Case.arms c.in-Case.rest c.deref-in-Case.result.now _ c.in-Case.is c.deref-in-Case.ensures.value (some_other c.in-Case.rest c.in-Some-rest.body c.deref-in-Some-rest.result.now c.in-Some-rest.is c.deref-in-Some-rest.ensures.value))
    (grind (arith, common_steps))

pub put_statement-returns-in_ok-put_block-in-Repeat : goal.put_statement-returns-in_ok-put_block-in-Repeat
put_statement-returns-in_ok-put_block-in-Repeat t c =
    subst (λ m. OnOk c.put_after.result (spots_of c.put_after.new.spots.items ≡ spots_of c.args.spots.now.items ++ m))
    (repeat_spots c.args.statement.now.kind c.in-Repeat.course c.in-Repeat.body c.deref-in-Repeat.result.now c.in-Repeat.is c.deref-in-Repeat.ensures.value)
    (grind (arith, common_steps))
