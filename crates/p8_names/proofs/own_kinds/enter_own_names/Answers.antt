use Rattle.std.proofs.Common.{◌+◌, ◌*◌, ◌++◌, length, map, ap, ◌∙◌, subst}
use Rattle.std.specs.Prelude.{min}
use Rattle.p8_tree.specs.Views.{method_of, declared_of}
use Rattle.p8_fold.specs.ConstantEntries.{setting_of}
use Rattle.p8_names.specs.Kinds.{greatest_offset, param_kinds, result_kind, local_kinds}
use Rattle.p8_names.specs.Counting.{AreEnteredAt}
use Rattle.p8_names.proofs.OwnNames.{then_entered}
use Rattle.p8_names.proofs.own_kinds.enter_own_names.Goals as goal

pub returns : goal.returns
returns c =
    let s = setting_of c.args.consts.now in
    let m = method_of c.args.method.now in
    let number = c.args.number in
    let longs = length m.params + 1 in
    let params = subst (λ ns. AreEnteredAt c.args.kinds.now c.enter_params.new.kinds number (param_kinds 1 ns)) c.as_slice.ensures c.in_ok-enter_params.ensures in
    let locals = subst (λ ls. AreEnteredAt c.enter_result.new.kinds c.enter_locals.new.kinds number (local_kinds s longs (map declared_of ls))) c.as_slice-2.ensures
    (c.in_ok-enter_locals.ensures longs (c.first_local-first.ensures ∙ ap (λ n. min (4 * (n + 1)) greatest_offset) c.len.ensures)) in
    then_entered (param_kinds 1 m.params) (result_kind m.result_name ++ local_kinds s longs m.locals) params (then_entered (result_kind m.result_name) (local_kinds s longs m.locals) c.in_ok-enter_result.ensures locals)
