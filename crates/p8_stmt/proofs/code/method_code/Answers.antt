use Rattle.std.proofs.Common.{subst}
use Rattle.std.specs.Prelude.{OnOk, IfErr}
use Rattle.p8_tree.specs.Views.{method_of, statements_of}
use Rattle.p8_tree.specs.declared.faults.Fault.{Fault}
use Rattle.p8_tree.specs.Faults.{IsFirstFault, IfRefused}
use Rattle.p8_gen.specs.Scopes.{names_from}
use Rattle.p8_stmt.specs.Methods.{IsMethodFault, rebodied}
use Rattle.p8_stmt.proofs.code.method_code.Goals as goal

pub returns-clause-clean : goal.returns-clause-clean
returns-clause-clean c =
    let n = names_from c.args.kinds.now c.args.number c.args.tables.now c.args.method.now.place in
    subst (λ ss. OnOk c.method_code_with.result ((f : Fault) → ¬ IsMethodFault n (rebodied (method_of c.args.method.now) (statements_of ss)) f)) c.as_slice.ensures c.method_code_with.ensures.clean

pub returns-clause-refused : goal.returns-clause-refused
returns-clause-refused c =
    let n = names_from c.args.kinds.now c.args.number c.args.tables.now c.args.method.now.place in
    subst (λ ss. IfErr c.method_code_with.result (IfRefused (IsFirstFault (IsMethodFault n (rebodied (method_of c.args.method.now) (statements_of ss)))))) c.as_slice.ensures c.method_code_with.ensures.refused
