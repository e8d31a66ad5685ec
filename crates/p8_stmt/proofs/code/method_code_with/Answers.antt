use Rattle.std.proofs.Common.{◌≡◌, [], ◌+◌, ◌||◌, nat_lt, map, ap, ◌∙◌, subst}
use Rattle.std.specs.Prelude.{MatchOption, Contains}
use Rattle.p8_tree.specs.Views.{method_of, declared_of, statements_of}
use Rattle.p8_tree.specs.Faults.{IsFirstFault}
use Rattle.p8_gen.specs.Depths.{held_in}
use Rattle.p8_gen.specs.Names.{widened, wide_in}
use Rattle.p8_gen.specs.Scopes.{names_from}
use Rattle.p8_gen.specs.Uses.{line_of}
use Rattle.p8_stmt.specs.Cutting.{cut, cut_longs}
use Rattle.p8_stmt.specs.Methods.{longs_in, most_longs, most_held, rebodied}
use Rattle.p8_stmt.specs.Telling.{faults_of}
use Rattle.p8_stmt.proofs.Coded.{first_is, no_fault, ops_whole, is_code, widened_resolved}
use Rattle.p8_stmt.proofs.code.method_code_with.Goals as goal

pub returns-in-Some-clause-refused : goal.returns-in-Some-clause-refused
returns-in-Some-clause-refused c =
    let n = widened (names_from c.args.kinds.now c.args.number c.args.tables.now c.args.method.now.place) (wide_in c.args.widths.now) in
    let m = rebodied (method_of c.args.method.now) (statements_of c.args.body.now) in
    let l_is : c.longs_in-longs.result ≡ cut_longs (longs_in n.constants m.locals) = c.longs_in-longs.ensures ∙ ap (λ xs. cut_longs (longs_in n.constants (map declared_of xs))) c.as_slice.ensures in
    let h_is : c.held_in-depth.result ≡ cut (held_in n m.body) = c.held_in-depth.ensures in
    let is = c.is_too_large-too_large.ensures ∙ ap (λ p. nat_lt most_longs (1 + p + c.longs_in-longs.result) || nat_lt most_held c.held_in-depth.result) c.len.ensures in
    let far_is = c.as_slice-2.ensures.value ∙ c.in_ok-kept.ensures.too_far in
    let told = subst (λ o. MatchOption o (faults_of c.as_slice-2.result.now m.place c.is_too_large-too_large.result ≡ []) (IsFirstFault (Contains (faults_of c.as_slice-2.result.now m.place c.is_too_large-too_large.result)))) c.in-Some.is c.in_ok-fault.ensures in
    first_is n m l_is h_is is far_is c.in-Some.fault told

pub coded-requires-clause-ops : goal.coded-requires-clause-ops
coded-requires-clause-ops c =
    let n = widened (names_from c.args.kinds.now c.args.number c.args.tables.now c.args.method.now.place) (wide_in c.args.widths.now) in
    let m = rebodied (method_of c.args.method.now) (statements_of c.args.body.now) in
    let l_is : c.longs_in-longs.result ≡ cut_longs (longs_in n.constants m.locals) = c.longs_in-longs.ensures ∙ ap (λ xs. cut_longs (longs_in n.constants (map declared_of xs))) c.as_slice.ensures in
    let h_is : c.held_in-depth.result ≡ cut (held_in n m.body) = c.held_in-depth.ensures in
    let is = c.is_too_large-too_large.ensures ∙ ap (λ p. nat_lt most_longs (1 + p + c.longs_in-longs.result) || nat_lt most_held c.held_in-depth.result) c.len.ensures in
    let far_is = c.as_slice-2.ensures.value ∙ c.in_ok-kept.ensures.too_far in
    let told = subst (λ o. MatchOption o (faults_of c.as_slice-2.result.now m.place c.is_too_large-too_large.result ≡ []) (IsFirstFault (Contains (faults_of c.as_slice-2.result.now m.place c.is_too_large-too_large.result)))) c.in-None.is c.in_ok-fault.ensures in
    ops_whole n m l_is h_is is far_is told c.in_ok-kept.ensures.ops (widened_resolved _ _ _ c.requires)

pub returns-in_ok-coded-in-None-clause-code : goal.returns-in_ok-coded-in-None-clause-code
returns-in_ok-coded-in-None-clause-code c =
    let n = widened (names_from c.args.kinds.now c.args.number c.args.tables.now c.args.method.now.place) (wide_in c.args.widths.now) in
    let m = rebodied (method_of c.args.method.now) (statements_of c.args.body.now) in
    let l_is : c.longs_in-longs.result ≡ cut_longs (longs_in n.constants m.locals) = c.longs_in-longs.ensures ∙ ap (λ xs. cut_longs (longs_in n.constants (map declared_of xs))) c.as_slice.ensures in
    let h_is : c.held_in-depth.result ≡ cut (held_in n m.body) = c.held_in-depth.ensures in
    let is = c.is_too_large-too_large.ensures ∙ ap (λ p. nat_lt most_longs (1 + p + c.longs_in-longs.result) || nat_lt most_held c.held_in-depth.result) c.len.ensures in
    let far_is = c.as_slice-2.ensures.value ∙ c.in_ok-kept.ensures.too_far in
    let told = subst (λ o. MatchOption o (faults_of c.as_slice-2.result.now m.place c.is_too_large-too_large.result ≡ []) (IsFirstFault (Contains (faults_of c.as_slice-2.result.now m.place c.is_too_large-too_large.result)))) c.in-None.is c.in_ok-fault.ensures in
    is_code n m l_is h_is is far_is told c.in_ok-coded-in-None.field-0
    c.in_ok-kept.ensures.ops
    c.in_ok-kept.ensures.texts
    c.in_ok-coded-in-None.ensures.bytes c.in_ok-coded-in-None.ensures.strings c.in_ok-coded-in-None.ensures.locals c.in_ok-coded-in-None.ensures.depth
    (ap (map line_of) c.in_ok-coded-in-None.ensures.lines ∙ c.in_ok-kept.ensures.lines)

pub returns-in_ok-coded-in-None-clause-clean : goal.returns-in_ok-coded-in-None-clause-clean
returns-in_ok-coded-in-None-clause-clean c =
    let n = widened (names_from c.args.kinds.now c.args.number c.args.tables.now c.args.method.now.place) (wide_in c.args.widths.now) in
    let m = rebodied (method_of c.args.method.now) (statements_of c.args.body.now) in
    let l_is : c.longs_in-longs.result ≡ cut_longs (longs_in n.constants m.locals) = c.longs_in-longs.ensures ∙ ap (λ xs. cut_longs (longs_in n.constants (map declared_of xs))) c.as_slice.ensures in
    let h_is : c.held_in-depth.result ≡ cut (held_in n m.body) = c.held_in-depth.ensures in
    let is = c.is_too_large-too_large.ensures ∙ ap (λ p. nat_lt most_longs (1 + p + c.longs_in-longs.result) || nat_lt most_held c.held_in-depth.result) c.len.ensures in
    let far_is = c.as_slice-2.ensures.value ∙ c.in_ok-kept.ensures.too_far in
    let told = subst (λ o. MatchOption o (faults_of c.as_slice-2.result.now m.place c.is_too_large-too_large.result ≡ []) (IsFirstFault (Contains (faults_of c.as_slice-2.result.now m.place c.is_too_large-too_large.result)))) c.in-None.is c.in_ok-fault.ensures in
    no_fault n m l_is h_is is far_is told
