use Rattle.std.proofs.Common.{◌≡◌, true, refl, rules, sym, ap, ◌∙◌, subst, take}
use Rattle.std.specs.Prelude.{OnOk}
use Rattle.p8_tree.specs.declared.expressions.Call.{out-Call}
use Rattle.p8_tree.specs.Expressions.{node, Var, Named, no_items, ◌▸◌}
use Rattle.p8_tree.specs.Views.{form_of, tree_of, variable_of, trees_of, item_of, items_of}
use Rattle.p8_tree.specs.Bridges.{boxed_index}
use Rattle.p8_fold.proofs.ValueRows.{call_form}
use Rattle.p8_gen.specs.Pieces.{up_to_end, one}
use Rattle.p8_gen.specs.Variables.{Push, memory_op, home_of}
use Rattle.p8_gen.specs.Expressions.{mark, value, value_of_form, operate, in_home, pushed_home, values, index_value, callee, call_of_built, arguments, looks, counts_from, looks_down}
use Rattle.p8_gen.specs.Scopes.{names_of}
use Rattle.p8_gen.specs.Views.{operation_of}
use Rattle.p8_gen.specs.Walking.{call_piece, looked}
use Rattle.p8_gen.specs.Writing.{Stands}
use Rattle.p8_gen.proofs.Walks.{Runs, values_next, items_next, looked_end, looked_jumps, looked_keeps, memory_is, register_is, variable_moved, named_is, built_new_cog, built_told_cog, built_plain, value_of_call, arguments_of_call, value_of_strings, value_of_built, value_of_look}
use Rattle.p8_gen.proofs.coder.Coder.+expressions.Goals as goal

pub arguments-returns-in-Call : goal.arguments-returns-in-Call
arguments-returns-in-Call t c =
    let n = names_of c.args.self.now in
    let place = c.args.begun.now.place in
    subst (Runs c.args.out.now c.values.result c.values.new.out) (arguments_of_call n place c.in-Call.call ∙ sym (ap (λ k. arguments n (node place (form_of k))) c.in-Call.is))
    (subst (λ es. Runs c.args.out.now c.values.result c.values.new.out (values n (trees_of es))) c.deref.ensures.value c.values.ensures)

pub call-returns : goal.call-returns
call-returns t c =
    let n = names_of c.args.self.now in
    let x = out-Call c.args.call.now in
    subst (Runs c.args.out.now c.callee.result c.callee.new.out) (sym (ap (call_piece n c.args.used) (call_form c.args.call.now))) (λ w stands.
    subst (λ es. OnOk c.callee.result (Stands c.callee.new.out (callee n x.object (boxed_index x.index) x.method (index_value n (boxed_index x.index) (values n (trees_of es) (mark c.args.used x.trap w)))))) c.deref.ensures.value
    (c.callee.ensures _ (c.in_ok-index_value.ensures _ (c.in_ok-values.ensures _ (c.in_ok-mark.ensures w stands)))))

pub call_of_built-returns-in_ok-value-in-NewCog : goal.call_of_built-returns-in_ok-value-in-NewCog
call_of_built-returns-in_ok-value-in-NewCog t c = λ w stands.
    subst (λ v. OnOk c.started.result (Stands c.started.new.out v))
    (built_new_cog (names_of c.args.self.now) c.args.used c.args.code c.args.arguments.now c.index-arguments-0-in-NewCog.result c.index-arguments-1.result c.index-arguments-0-in-NewCog-2.result w c.in-NewCog.ensures c.index-arguments-0-in-NewCog.is c.index-arguments-1.is c.index-arguments-0-in-NewCog-2.is)
    (c.started.ensures _ (c.in_ok-value-in-NewCog.ensures _ (c.in_ok-started_value-in-NewCog.ensures _ (c.in_ok-byte-in-NewCog.ensures w stands))))

pub call_of_built-returns-in_ok-value-in-ToldCog-2 : goal.call_of_built-returns-in_ok-value-in-ToldCog-2
call_of_built-returns-in_ok-value-in-ToldCog-2 t c = λ w stands.
    subst (λ v. OnOk c.started-in-ToldCog.result (Stands c.started-in-ToldCog.new.out v))
    (built_told_cog (names_of c.args.self.now) c.args.used c.args.code c.args.arguments.now c.index-arguments-0-in-ToldCog.result c.index-arguments-1-in-ToldCog.result c.index-arguments-2.result c.index-arguments-1-in-ToldCog-2.result w c.in-ToldCog.ensures c.index-arguments-0-in-ToldCog.is c.index-arguments-1-in-ToldCog.is c.index-arguments-2.is c.index-arguments-1-in-ToldCog-2.is)
    (c.started-in-ToldCog.ensures _ (c.in_ok-value-in-ToldCog-2.ensures _ (c.in_ok-started_value-in-ToldCog.ensures _ (c.in_ok-value-in-ToldCog.ensures w stands))))

pub call_of_built-returns-in_ok-values-in-Plain : goal.call_of_built-returns-in_ok-values-in-Plain
call_of_built-returns-in_ok-values-in-Plain t c = λ w stands.
    subst (λ v. OnOk c.built.result (Stands c.built.new.self v)) (sym (built_plain (names_of c.args.self.now) c.args.used c.args.code c.args.arguments.now w c.in-Plain.ensures))
    (c.built.ensures _ (c.in_ok-values-in-Plain.ensures w stands))

pub look-returns-then-counts : goal.look-returns-then-counts
look-returns-then-counts t c = λ w stands.
    let n = names_of c.args.self.now in
    let xs = items_of c.args.items.now in
    let counted : Stands c.looked.new.out (looked n c.args.down xs 0 w) = c.in_ok-looked.ensures w (c.counter-counter.ensures w stands) in
    let end = (looked n c.args.down xs 0 w).end in
    c.if-counts.ensures.counts (up_to_end (looked n c.args.down xs) w) (counted.ends ∙ looked_end n c.args.down xs 0 end w) (counted.jumps ∙ looked_jumps n c.args.down xs 0 end w) (stands.statement ∙ looked_keeps n c.args.down xs end w)

pub looked-loop-item-preserved : goal.looked-loop-item-preserved
looked-loop-item-preserved t c = λ w stands.
    let n = names_of c.args.self.now in
    let xs = c.args.items.now in
    let before = looks n c.args.down c.args.end (items_of (take c.loop-item.item-index xs)) w in
    subst (Stands c.item.new.out) (items_next n c.args.down c.args.end xs c.loop-item.item-index c.item-item.result w c.loop-item-test.true)
    (subst (λ x. Stands c.item.new.out (looks n c.args.down c.args.end (no_items ▸ item_of x) before)) c.item-item.is (c.in_ok-item.ensures before (c.loop-item.invariant w stands)))

pub named-returns-in_ok-value-in-Some : goal.named-returns-in_ok-value-in-Some
named-returns-in_ok-value-in-Some t c = λ w stands.
    let n = names_of c.args.self.now in
    let place = c.args.self.now.statement in
    let address : c.deref.result.now ≡ c.in-Some.index.value = search rules in
    subst (λ v. OnOk c.one.result (Stands c.one.new.self v))
    (ap (λ op. one op (value n (tree_of c.deref.result.now) w)) (c.memory_op.ensures ∙ ap (λ h. memory_op true h Push) c.home.ensures)
    ∙ ap (λ e. one (memory_op true (home_of n c.args.name.now) Push) (value n (tree_of e) w)) address
    ∙ sym (ap (λ i. value_of_form n place (Var (Named c.args.name.now (boxed_index i) place)) w) c.in-Some.is))
    (c.one.ensures _ (c.in_ok-value-in-Some.ensures w stands))

pub operate-returns-in_ok-value-in-Memory : goal.operate-returns-in_ok-value-in-Memory
operate-returns-in_ok-value-in-Memory t c = λ w stands.
    let n = names_of c.args.self.now in
    let o = operation_of c.args.operation in
    let address : c.deref.result.now ≡ c.in-Memory.address.value = search rules in
    subst (λ v. OnOk c.in_home-in-Memory.result (Stands c.in_home-in-Memory.new.out v))
    (ap (λ h. in_home n h (boxed_index c.in-Memory.index) o (value n (tree_of c.deref.result.now) w)) c.home_at.ensures
    ∙ ap (λ e. in_home n (pushed_home c.in-Memory.size) (boxed_index c.in-Memory.index) o (value n (tree_of e) w)) address
    ∙ memory_is n c.in-Memory.size c.in-Memory.address c.in-Memory.index c.in-Memory.field-3 o w
    ∙ sym (ap (λ v. operate n (variable_of v) o w) c.in-Memory.is))
    (c.in_home-in-Memory.ensures _ (c.in_ok-value-in-Memory.ensures w stands))

pub operate-returns-in-Register : goal.operate-returns-in-Register
operate-returns-in-Register t c =
    let n = names_of c.args.self.now in
    let o = operation_of c.args.operation in
    subst (Runs c.args.out.now c.in_register.result c.in_register.new.out)
    (register_is n c.in-Register.address c.in-Register.bits c.args.self.now.statement c.in-Register.field-2 o ∙ sym (ap (λ v. operate n (variable_of v) o) c.in-Register.is))
    c.in_register.ensures

pub value-returns-in-Var : goal.value-returns-in-Var
value-returns-in-Var t c =
    let n = names_of c.args.self.now in
    let place = c.args.expr.now.place in
    subst (Runs c.args.out.now c.variable.result c.variable.new.out)
    (variable_moved n (variable_of c.in-Var.variable) c.args.self.now.statement place ∙ sym (ap (λ k. value_of_form n place (form_of k)) c.in-Var.is))
    c.variable.ensures

pub value-returns-in-Call : goal.value-returns-in-Call
value-returns-in-Call t c =
    let n = names_of c.args.self.now in
    let place = c.args.expr.now.place in
    subst (Runs c.args.out.now c.call.result c.call.new.out) (value_of_call n place c.in-Call.call ∙ sym (ap (λ k. value_of_form n place (form_of k)) c.in-Call.is)) c.call.ensures

pub value-returns-in-Strings : goal.value-returns-in-Strings
value-returns-in-Strings t c =
    let n = names_of c.args.self.now in
    let place = c.args.expr.now.place in
    subst (Runs c.args.out.now c.text-in-Strings.result c.text-in-Strings.new.self) (value_of_strings n place c.in-Strings.field-0 ∙ sym (ap (λ k. value_of_form n place (form_of k)) c.in-Strings.is)) c.text-in-Strings.ensures

pub value-returns-in-Built : goal.value-returns-in-Built
value-returns-in-Built t c =
    let n = names_of c.args.self.now in
    let place = c.args.expr.now.place in
    subst (Runs c.args.out.now c.call_of_built.result c.call_of_built.new.out)
    (ap (λ es. call_of_built n true c.in-Built.code (trees_of es)) c.deref-in-Built.ensures.value ∙ value_of_built n place c.in-Built.code c.in-Built.arguments ∙ sym (ap (λ k. value_of_form n place (form_of k)) c.in-Built.is))
    c.call_of_built.ensures

pub value-returns-in_ok-counts_from-in-Look : goal.value-returns-in_ok-counts_from-in-Look
value-returns-in_ok-counts_from-in-Look t c =
    let n = names_of c.args.self.now in
    let place = c.args.expr.now.place in
    let code = c.in-Look.code in
    let sought : c.deref-in-Look.result.now ≡ c.in-Look.sought.value = search rules in
    let items : c.deref-in-Look-2.result.now ≡ c.in-Look.items.items = c.deref-in-Look-2.ensures.value in
    subst (Runs c.args.out.now c.look.result c.look.new.out) (value_of_look n place code c.in-Look.sought c.in-Look.items ∙ sym (ap (λ k. value_of_form n place (form_of k)) c.in-Look.is)) (λ w stands.
    subst (λ v. OnOk c.look.result (Stands c.look.new.out v))
    (ap (λ d. up_to_end (looked n d (items_of c.deref-in-Look-2.result.now)) (counts_from code (value n (tree_of c.deref-in-Look.result.now) w))) c.looks_down.ensures
    ∙ ap (λ xs. up_to_end (looked n (looks_down code) (items_of xs)) (counts_from code (value n (tree_of c.deref-in-Look.result.now) w))) items
    ∙ ap (λ e. up_to_end (looked n (looks_down code) (items_of c.in-Look.items.items)) (counts_from code (value n (tree_of e) w))) sought)
    (c.look.ensures _ (c.in_ok-counts_from-in-Look.ensures _ (c.in_ok-value-in-Look.ensures w stands))))

pub values-loop-argument-preserved : goal.values-loop-argument-preserved
values-loop-argument-preserved t c = λ w stands.
    let n = names_of c.args.self.now in
    let es = c.args.arguments.now in
    let before = values n (trees_of (take c.loop-argument.argument-index es)) w in
    subst (Stands c.value.new.out) (values_next n es c.loop-argument.argument-index c.argument-item.result w c.loop-argument-test.true)
    (subst (λ e. Stands c.value.new.out (value n (tree_of e) before)) c.argument-item.is (c.in_ok-value.ensures before (c.loop-argument.invariant w stands)))

pub variable-returns-in-Named : goal.variable-returns-in-Named
variable-returns-in-Named t c =
    let n = names_of c.args.self.now in
    let place = c.args.self.now.statement in
    subst (Runs c.args.out.now c.named.result c.named.new.out)
    (named_is n c.in-Named.name c.in-Named.index c.in-Named.field-2 place ∙ sym (ap (λ v. value_of_form n place (Var (variable_of v))) c.in-Named.is))
    c.named.ensures

pub variable-returns-in-Part : goal.variable-returns-in-Part
variable-returns-in-Part t c =
    let n = names_of c.args.self.now in
    let place = c.args.self.now.statement in
    subst (Runs c.args.out.now c.operate.result c.operate.new.out)
    (subst (λ v. operate n (variable_of v) Push ≡ value_of_form n place (Var (variable_of v))) (sym c.in-Part.is) refl)
    c.operate.ensures

pub variable-returns-in-Memory : goal.variable-returns-in-Memory
variable-returns-in-Memory t c =
    let n = names_of c.args.self.now in
    let place = c.args.self.now.statement in
    subst (Runs c.args.out.now c.operate-in-Memory.result c.operate-in-Memory.new.out)
    (subst (λ v. operate n (variable_of v) Push ≡ value_of_form n place (Var (variable_of v))) (sym c.in-Memory.is) refl)
    c.operate-in-Memory.ensures

pub variable-returns-in-Register : goal.variable-returns-in-Register
variable-returns-in-Register t c =
    let n = names_of c.args.self.now in
    let place = c.args.self.now.statement in
    subst (Runs c.args.out.now c.operate-in-Register.result c.operate-in-Register.new.out)
    (subst (λ v. operate n (variable_of v) Push ≡ value_of_form n place (Var (variable_of v))) (sym c.in-Register.is) refl)
    c.operate-in-Register.ensures
