use Rattle.std.proofs.Common.{◌≡◌, rules, subst, ℕ, List, IfOk, Result}
use Rattle.p8_verify.specs.Answers.{Tells}
use Rattle.p8_verify.specs.declared.checker.VerifyFault.{VerifyFault}
use Rattle.p8_prop.specs.Works.{IsCheckedBy}
use Rattle.p8_prop.proofs.work.checked.Goals as goal

pub returns : goal.returns
returns c =
    let boot = c.args.read.inputs.boot in
    let script = c.args.read.inputs.script in
    let bytes = c.args.read.history.items in
    let tells = subst (λ (answer : Result ℕ VerifyFault). Tells boot script bytes answer) c.in-Err.is
    (subst (λ (xs : List ℕ). Tells boot script xs c.verify.result) c.deref.ensures.value c.verify.ensures.verdict) in
    let same : c.in_ok-history.history ≡ c.args.history.now = search rules in
    subst (λ (name : List ℕ). IfOk c.not_good.result (IsCheckedBy boot script bytes name)) same (c.not_good.ensures boot script bytes tells)
