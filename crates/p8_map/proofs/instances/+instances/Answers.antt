use Rattle.std.proofs.Common.{◌≡◌, ◌∙◌, ◌-◌, ◌<◌, ◌++◌, List, ap, OnOk, subst, arith, rules, drop, length, length-drop}
use Rattle.std.specs.Prelude.{slice_get, Some}
use Rattle.p8_image.specs.declared.parts.Variable.{Variable}
use Rattle.p8_map.specs.Map.{instances_within, own_instance}
use Rattle.p8_map.proofs.Ending.{all-put, no-instances}
use Rattle.p8_map.proofs.Inside.{no_depth, no_names, no_object, whole_instance}
use Rattle.p8_map.proofs.instances.+instances.Goals as goal

pub push_instance-returns-then-depth-eq0 : goal.push_instance-returns-then-depth-eq0
push_instance-returns-then-depth-eq0 t c =
    no_depth c.args.plan.now.files.now c.args.plan.now.objects.now c.args.plan.now.sizes.now c.args.depth c.args.prefix.now c.args.number c.args.place c.args.all.now c.if-depth-eq0.true

pub push_instance-returns-in_default : goal.push_instance-returns-in_default
push_instance-returns-in_default t c =
    no_names c.args.plan.now.files.now c.args.plan.now.objects.now c.args.plan.now.sizes.now c.args.depth c.args.prefix.now c.args.number c.args.place c.args.all.now
    (omega arith) (search rules)

pub push_instance-returns-in_default-object_at : goal.push_instance-returns-in_default-object_at
push_instance-returns-in_default-object_at t c =
    no_object c.args.plan.now.files.now c.args.plan.now.objects.now c.args.plan.now.sizes.now c.args.depth c.args.prefix.now c.args.number c.args.place c.args.all.now
    (omega arith) (search rules)

pub push_instance-returns : goal.push_instance-returns
push_instance-returns t c =
    let plan = c.args.plan.now in
    let has_names : slice_get plan.files.now c.args.number ≡ Some c.in-Some.names.now = search rules in
    let has_object : slice_get plan.objects.now c.args.number ≡ Some c.in-Some-object_at.object.now = search rules in
    let own = c.in_ok-push_own.ensures ∙ ap (λ (variables : List Variable). c.args.all.now ++ own_instance c.args.prefix.now c.args.number c.args.place variables) c.as_slice.ensures in
    let whole = whole_instance plan.files.now plan.objects.now plan.sizes.now c.args.depth c.args.prefix.now c.args.number c.args.place
    c.in-Some.names.now c.in-Some-object_at.object.now c.args.all.now c.push_own.new.all c.after_own-inside.result
    (omega arith) has_names has_object c.after_own-inside.ensures own in
    subst (λ put. OnOk c.push_inner.result (c.push_inner.new.all ≡ put)) whole (search rules)

pub push_inner-returns : goal.push_inner-returns
push_inner-returns t c =
    let left : length (drop c.loop-file.file-index c.args.instances.now) ≡ length c.args.instances.now - c.loop-file.file-index = length-drop c.loop-file.file-index c.args.instances.now in
    let none : length (drop c.loop-file.file-index c.args.instances.now) < 1 = omega arith in
    all-put _ _ _ (no-instances (instances_within c.args.plan.now.files.now c.args.plan.now.objects.now c.args.plan.now.sizes.now c.args.depth) c.args.plan.now.sizes.now c.loop-file.place c.args.prefix.now c.loop-file.rest.now (drop c.loop-file.file-index c.args.instances.now) none) c.loop-file.invariant
