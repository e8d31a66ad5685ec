use Rattle.std.proofs.Common.{map, subst}
use Rattle.p8_tree.specs.Views.{declared_of, statements_of}
use Rattle.p8_fold.specs.ConstantEntries.{setting_of}
use Rattle.p8_kinds.specs.Environments.{environment_of}
use Rattle.p8_kinds.specs.Misuses.{MisuseInStatements}
use Rattle.p8_constants.specs.Standing.{IsFirstOf}
use Rattle.p8_names.specs.Faults.{FaultInLocals}
use Rattle.p8_names.proofs.TwoFaults.{two_first}
use Rattle.p8_names.proofs.method_faults.method_fault.Goals as goal

pub returns : goal.returns
returns c =
    let s = setting_of c.args.scope.now.consts in
    let env = environment_of c.args.scope.now in
    let locals = subst (λ ls. IsFirstOf c.first_local_fault-local.result (FaultInLocals s (map declared_of ls))) c.as_slice.ensures c.first_local_fault-local.ensures in
    let body = subst (λ b. IsFirstOf c.first_misuse.result (MisuseInStatements env (statements_of b))) c.as_slice-2.ensures c.first_misuse.ensures in
    two_first (FaultInLocals s (map declared_of c.args.method.now.locals)) (MisuseInStatements env (statements_of c.args.method.now.body)) c.first_local_fault-local.result c.first_misuse.result c.first_of_two.ensures locals body
