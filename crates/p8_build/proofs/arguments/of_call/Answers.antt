use Rattle.std.proofs.Common.{◌≡◌, ◌∙◌, ap, sym, subst, length}
use Rattle.p8_tree.specs.declared.expressions.Call.{out-Call}
use Rattle.p8_fold.proofs.ValueRows.{call_form}
use Rattle.p8_kinds.proofs.Rows.{count_is}
use Rattle.p8_build.specs.Arguments.{differing, own_told, told_at, wanted_by}
use Rattle.p8_build.specs.Searching.{search_of}
use Rattle.p8_build.proofs.arguments.of_call.Goals as goal

pub returns : goal.returns
returns c =
    let s = search_of c.args.sought.now in
    let x = out-Call c.args.call.now in
    subst (λ f. c.told_at.result ≡ own_told s c.args.place f) (sym (call_form c.args.call.now))
    (c.told_at.ensures ∙ ap (told_at s x.method_place) (c.differing.ensures
    ∙ ap (λ w. differing w (length c.as_slice-given.result.now)) c.wanted_by-wanted.ensures
    ∙ ap (differing (wanted_by s x.object x.method)) (ap length c.as_slice-given.ensures.value ∙ sym (count_is x.args.items))))
