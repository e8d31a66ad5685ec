use Rattle.std.proofs.Common.{◌≡◌, ◌++◌, [], OnOk, sym, ap, ◌∙◌, subst, append_assoc, append-nil, arith}
use Rattle.std.proofs.lemmas.Grind.{common_steps}
use Rattle.p8_tree.specs.Views.{tree_of, arms_of}
use Rattle.p8_build.specs.Strings.{in_tree, in_arms}
use Rattle.p8_build.specs.Views.{texts_of}
use Rattle.p8_build.proofs.Rows.{statements_next, arms_next, no_other, some_other, if_texts, case_texts, repeat_texts, arm_texts}
use Rattle.p8_build.proofs.statements.+statements.Goals as goal

pub put_statements-loop-statement-preserved : goal.put_statements-loop-statement-preserved
put_statements-loop-statement-preserved t c =
    statements_next c.args.statements.now c.loop-statement.statement-index c.statement-item.result (texts_of c.args.texts.now.items) (texts_of c.loop-statement.texts.items) c.loop-statement-test.true c.statement-item.is c.loop-statement.invariant c.in_ok-put_statement.ensures

pub put_arms-loop-arm-preserved : goal.put_arms-loop-arm-preserved
put_arms-loop-arm-preserved t c =
    arms_next c.args.arms.now c.loop-arm.arm-index c.arm-item.result (texts_of c.args.texts.now.items) (texts_of c.loop-arm.texts.items) c.loop-arm-test.true c.arm-item.is c.loop-arm.invariant c.in_ok-put_arm.ensures

pub put_arm-returns : goal.put_arm-returns
put_arm-returns t c =
    subst (λ m. OnOk c.put_statements.result (texts_of c.put_statements.new.texts.items ≡ texts_of c.args.texts.now.items ++ m))
    (arm_texts c.args.arm.now c.as_slice.result.now c.deref.result.now c.as_slice.ensures c.deref.ensures.value)
    (grind (arith, common_steps))

pub put_statement-returns-in-None : goal.put_statement-returns-in-None
put_statement-returns-in-None t c =
    c.in_ok-put_arms-in-If.ensures
    ∙ ap (λ m. texts_of c.args.texts.now.items ++ m)
    (sym (append-nil (in_arms (arms_of c.deref.result.now))) ∙ if_texts c.args.statement.now.kind c.in-If.arms c.in-If.rest c.deref.result.now [] c.in-If.is c.deref.ensures.value (no_other c.in-If.rest c.in-None.is))

pub put_statement-returns-in-Some : goal.put_statement-returns-in-Some
put_statement-returns-in-Some t c =
    subst (λ m. OnOk c.put_statements.result (texts_of c.put_statements.new.texts.items ≡ texts_of c.args.texts.now.items ++ m))
    (if_texts c.args.statement.now.kind c.in-If.arms c.in-If.rest c.deref.result.now _ c.in-If.is c.deref.ensures.value (some_other c.in-If.rest c.in-Some.body c.deref-in-Some.result.now c.in-Some.is c.deref-in-Some.ensures.value))
    (grind (arith, common_steps))

pub put_statement-returns-in-None-rest : goal.put_statement-returns-in-None-rest
put_statement-returns-in-None-rest t c =
    let old = texts_of c.args.texts.now.items in
    let value = in_tree (tree_of c.in-Case.value) in
    let arms = in_arms (arms_of c.deref-in-Case.result.now) in
    c.in_ok-put_arms-in-Case.ensures ∙ (ap (λ b. b ++ arms) c.in_ok-put_tree-in-Case.ensures ∙ (append_assoc old value arms
    ∙ ap (λ m. old ++ m) (ap (λ m. value ++ m) (sym (append-nil arms)) ∙ case_texts c.args.statement.now.kind c.in-Case.value c.in-Case.arms c.in-Case.rest c.deref-in-Case.result.now [] c.in-Case.is c.deref-in-Case.ensures.value (no_other c.in-Case.rest c.in-None-rest.is))))

pub put_statement-returns-in-Some-rest : goal.put_statement-returns-in-Some-rest
put_statement-returns-in-Some-rest t c =
    subst (λ m. OnOk c.put_statements-in-Some-rest.result (texts_of c.put_statements-in-Some-rest.new.texts.items ≡ texts_of c.args.texts.now.items ++ m))
    (case_texts c.args.statement.now.kind c.in-Case.value c.in-Case.arms c.in-Case.rest c.deref-in-Case.result.now _ c.in-Case.is c.deref-in-Case.ensures.value (some_other c.in-Case.rest c.in-Some-rest.body c.deref-in-Some-rest.result.now c.in-Some-rest.is c.deref-in-Some-rest.ensures.value))
    (grind (arith, common_steps))

pub put_statement-returns-in_ok-put_statements-in-Repeat : goal.put_statement-returns-in_ok-put_statements-in-Repeat
put_statement-returns-in_ok-put_statements-in-Repeat t c =
    subst (λ m. OnOk c.put_behind.result (texts_of c.put_behind.new.texts.items ≡ texts_of c.args.texts.now.items ++ m))
    (repeat_texts c.args.statement.now.kind c.in-Repeat.course c.in-Repeat.body c.deref-in-Repeat.result.now c.in-Repeat.is c.deref-in-Repeat.ensures.value)
    (grind (arith, common_steps))
