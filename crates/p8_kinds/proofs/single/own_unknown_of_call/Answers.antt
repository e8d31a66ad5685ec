use Rattle.std.proofs.Common.{◌≡◌, sym, subst}
use Rattle.p8_fold.proofs.ValueRows.{call_form}
use Rattle.p8_kinds.specs.Environments.{environment_of}
use Rattle.p8_kinds.specs.Misuses.{own_unknown}
use Rattle.p8_kinds.proofs.single.own_unknown_of_call.Goals as goal

pub returns : goal.returns
returns c =
    subst (λ f. c.unknown_call.result ≡ own_unknown (environment_of c.args.scope.now) c.args.place f) (sym (call_form c.args.call.now)) c.unknown_call.ensures
