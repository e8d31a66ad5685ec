use Rattle.std.proofs.Common.{◌≡◌, ◌∙◌, ap, sym, subst, rules, Some}
use Rattle.std.specs.Prelude.{IfOk}
use Rattle.std.specs.BTreeMap.{UpdatesBy}
use Rattle.std.specs.Ordering.{nat_cmp}
use Rattle.p8_fold.proofs.Bytes.{OnErr-to}
use Rattle.p8_kinds.specs.Entries.{names_at, in_names}
use Rattle.p8_kinds.proofs.Scopes.{at_other_numbers, at_other_names, at_all_names}
use Rattle.p8_kinds.proofs.kinds.enter_in.Goals as goal

pub returns-in-Some-clause-old : goal.returns-in-Some-clause-old
returns-in-Some-clause-old c =
    let found : names_at c.args.method c.args.scopes.now ≡ Some c.in-Some.names.now = search rules in
    subst (λ o. IfOk c.enter.result (λ old. old ≡ in_names c.args.name.now o)) (sym found) c.enter.ensures.old

pub returns-in-Some-clause-others : goal.returns-in-Some-clause-others
returns-in-Some-clause-others c =
    let new = c.get_mut.follows.lender c.enter.new.names in
    let updated : UpdatesBy nat_cmp (nat_cmp c.args.method) c.args.scopes.now new (Some c.enter.new.names) = (c.get_mut.follows.holds c.enter.new.names).3 (search rules) in
    let found : names_at c.args.method c.args.scopes.now ≡ Some c.in-Some.names.now = search rules in
    at_other_names c.args.scopes.now new c.args.method c.enter.new.names updated.1 (at_other_numbers c.args.method c.args.scopes.now new _ updated)
    c.args.name.now (λ n differs. c.enter.ensures.others n differs ∙ ap (in_names n) (sym found))

pub returns-in-Some-clause-unchanged : goal.returns-in-Some-clause-unchanged
returns-in-Some-clause-unchanged c =
    let new = c.get_mut.follows.lender c.enter.new.names in
    let updated : UpdatesBy nat_cmp (nat_cmp c.args.method) c.args.scopes.now new (Some c.enter.new.names) = (c.get_mut.follows.holds c.enter.new.names).3 (search rules) in
    let found : names_at c.args.method c.args.scopes.now ≡ Some c.in-Some.names.now = search rules in
    OnErr-to c.enter.result (λ same. at_all_names c.args.scopes.now new c.args.method c.enter.new.names updated.1 (at_other_numbers c.args.method c.args.scopes.now new _ updated)
    (λ n. same n ∙ ap (in_names n) (sym found))) c.enter.ensures.unchanged
