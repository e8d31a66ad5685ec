use Rattle.std.proofs.Common.{ℕ, refl, ap}
use Rattle.p8_tree.specs.Views.{method_of}
use Rattle.p8_gen.specs.Names.{Names}
use Rattle.p8_gen.specs.Scopes.{names_from}
use Rattle.p8_build.specs.Files.{names_with}
use Rattle.p8_build.proofs.OneByOne.{add_coded, add_refused}
use Rattle.p8_build.proofs.coding.add_code.Goals as goal

pub returns-in_ok-push-in-Ok : goal.returns-in_ok-push-in-Ok
returns-in_ok-push-in-Ok c =
    let here = method_of c.args.method.now in
    let named : ℕ → Names = λ k. names_from c.args.kinds.now k c.args.tables.now c.args.method.now.place in
    add_coded (named c.in_ok-number.number) (names_with c.args.kinds.now c.args.tables.now c.args.index here) here c.in-Ok.code _ _ (ap named c.in_ok-number.ensures)
    c.in-Ok.ensures.code c.in-Ok.ensures.clean c.in_ok-push-in-Ok.ensures.ok refl

pub returns-in-Err-Refused : goal.returns-in-Err-Refused
returns-in-Err-Refused c =
    let here = method_of c.args.method.now in
    let named : ℕ → Names = λ k. names_from c.args.kinds.now k c.args.tables.now c.args.method.now.place in
    add_refused (named c.in_ok-number.number) (names_with c.args.kinds.now c.args.tables.now c.args.index here) here c.in-Err-Refused.fault c.args.coded.now _ (ap named c.in_ok-number.ensures)
    (rw c.in-Err-Refused.field-0-is at c.in-Err-Refused.ensures.refused) refl c.first_of_two-coded.ensures
