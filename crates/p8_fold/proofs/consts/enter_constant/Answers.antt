use Rattle.std.proofs.Common.{◌≡◌, ◌∙◌, ap, sym, subst, rules, Some, nat_cmp}
use Rattle.std.specs.BTreeMap.{UpdatesBy}
use Rattle.std.specs.Cmp.Lexicographic.{slice_cmp}
use Rattle.p8_fold.specs.ConstantEntries.{at_bytes, at_both}
use Rattle.p8_fold.proofs.Bytes.{key_cmp, at_others, at_other_names, at_all_names, OnErr-to}
use Rattle.p8_fold.proofs.consts.enter_constant.Goals as goal

pub returns-in-Some-clause-others : goal.returns-in-Some-clause-others
returns-in-Some-clause-others c =
    let new = c.get_mut.follows.lender c.enter.new.names in
    let updated : UpdatesBy key_cmp (λ k. slice_cmp nat_cmp c.args.object.now k.items) c.args.objects.now new (Some c.enter.new.names) =
    subst (λ bs. UpdatesBy key_cmp (λ k. slice_cmp nat_cmp bs k.items) c.args.objects.now new (Some c.enter.new.names)) c.as_slice.ensures ((c.get_mut.follows.holds c.enter.new.names).3 (search rules)) in
    let found : at_bytes c.args.object.now c.args.objects.now ≡ Some c.in-Some.names.now = search rules in
    at_other_names c.args.objects.now new c.args.object.now c.enter.new.names updated.1
    (λ n differs. at_others c.args.object.now c.args.objects.now new _ updated n differs)
    c.args.name.now (λ n differs. c.enter.ensures.others n differs ∙ ap (at_both n) (sym found))

pub returns-in-Some-clause-unchanged : goal.returns-in-Some-clause-unchanged
returns-in-Some-clause-unchanged c =
    let new = c.get_mut.follows.lender c.enter.new.names in
    let updated : UpdatesBy key_cmp (λ k. slice_cmp nat_cmp c.args.object.now k.items) c.args.objects.now new (Some c.enter.new.names) =
    subst (λ bs. UpdatesBy key_cmp (λ k. slice_cmp nat_cmp bs k.items) c.args.objects.now new (Some c.enter.new.names)) c.as_slice.ensures ((c.get_mut.follows.holds c.enter.new.names).3 (search rules)) in
    let found : at_bytes c.args.object.now c.args.objects.now ≡ Some c.in-Some.names.now = search rules in
    OnErr-to c.enter.result (λ same. at_all_names c.args.objects.now new c.args.object.now c.enter.new.names updated.1
    (λ n differs. at_others c.args.object.now c.args.objects.now new _ updated n differs)
    (λ n. same n ∙ ap (at_both n) (sym found))) c.enter.ensures.unchanged
