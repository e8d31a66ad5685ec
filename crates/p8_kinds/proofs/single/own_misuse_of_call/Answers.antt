use Rattle.std.proofs.Common.{◌≡◌, ◌∙◌, ap, sym, subst, length}
use Rattle.p8_tree.specs.declared.expressions.Call.{out-Call}
use Rattle.p8_fold.proofs.ValueRows.{call_form}
use Rattle.p8_kinds.specs.Environments.{environment_of}
use Rattle.p8_kinds.specs.Misuses.{own_misuse, misuse_of_call}
use Rattle.p8_kinds.proofs.Rows.{count_is}
use Rattle.p8_kinds.proofs.single.own_misuse_of_call.Goals as goal

pub returns : goal.returns
returns c =
    let x = out-Call c.args.call.now in
    subst (λ f. c.misuse_of_call.result ≡ own_misuse (environment_of c.args.scope.now) c.args.place f) (sym (call_form c.args.call.now))
    (c.misuse_of_call.ensures ∙ ap (λ n. misuse_of_call (environment_of c.args.scope.now) x.object x.method n c.args.place x.method_place) (ap length c.as_slice.ensures.value ∙ sym (count_is x.args.items)))
