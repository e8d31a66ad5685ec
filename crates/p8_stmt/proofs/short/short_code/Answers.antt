use Rattle.std.proofs.Common.{subst, List, Bool}
use Rattle.p8_tree.specs.Views.{method_of, statements_of}
use Rattle.p8_tree.specs.Faults.{IsFirstFault, IfRefused}
use Rattle.p8_gen.specs.Names.{widened, wide_in}
use Rattle.p8_gen.specs.Scopes.{names_from}
use Rattle.p8_stmt.specs.Methods.{IsMethodFault, rebodied}
use Rattle.p8_stmt.specs.Jumps.{IsLeast}
use Rattle.p8_stmt.proofs.Least.{accepted-fits, no-fault}
use Rattle.p8_stmt.proofs.short.short_code.Goals as goal

pub least_widths-requires : goal.least_widths-requires
least_widths-requires c =
    accepted-fits (names_from c.args.kinds.now c.args.number c.args.tables.now c.args.method.now.place) (method_of c.args.method.now) (statements_of c.args.body.now) c.requires.accepted

pub unreachable-requires : goal.unreachable-requires
unreachable-requires c =
    let n = names_from c.args.kinds.now c.args.number c.args.tables.now c.args.method.now.place in
    let m = method_of c.args.method.now in
    let ss = statements_of c.args.body.now in
    let least : IsLeast n ss c.in_ok-widths.widths.items = c.in_ok-widths.ensures in
    let refused : IfRefused (IsFirstFault (IsMethodFault (widened n (wide_in c.as_slice.result.now)) (rebodied m ss))) c.in-Err-Refused.field-0 = c.in-Err-Refused.ensures.refused in
    let told = subst (IfRefused (IsFirstFault (IsMethodFault (widened n (wide_in c.as_slice.result.now)) (rebodied m ss)))) c.in-Err-Refused.field-0-is refused in
    no-fault n m ss c.requires.accepted (wide_in c.in_ok-widths.widths.items) least.fits c.in-Err-Refused.field-0-0
    (subst (λ (ws : List Bool). IsMethodFault (widened n (wide_in ws)) (rebodied m ss) c.in-Err-Refused.field-0-0) c.as_slice.ensures.value told.holds)
