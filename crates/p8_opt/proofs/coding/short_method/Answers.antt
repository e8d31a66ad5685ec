use Rattle.std.proofs.Common.{◌≡◌, ℕ, ◌+◌, ap, sym, ◌∙◌, subst}
use Rattle.std.specs.Prelude.{IfOk}
use Rattle.p8_tree.specs.declared.faults.Fault.{Fault}
use Rattle.p8_tree.specs.Statements.{Statements}
use Rattle.p8_tree.specs.Views.{method_of, statements_of}
use Rattle.p8_gen.specs.Names.{Names}
use Rattle.p8_gen.specs.Scopes.{names_from}
use Rattle.p8_stmt.specs.Methods.{AreResolved, IsMethodFault, rebodied}
use Rattle.p8_meaning.specs.Folding.{folded_body}
use Rattle.p8_stmt.specs.Jumps.{IsShortCode}
use Rattle.p8_opt.specs.Steps.{constants_by}
use Rattle.p8_opt.proofs.coding.short_method.Goals as goal

pub short_code-requires-clause-resolved : goal.short_code-requires-clause-resolved
short_code-requires-clause-resolved c =
    let m = method_of c.args.method.now in
    let named : ℕ → Names = λ k. names_from c.args.kinds.now k c.args.tables.now m.place in
    let body : statements_of c.as_slice-2.result.now ≡ folded_body (constants_by c.args.tables.now) m.body = ap statements_of c.as_slice-2.ensures ∙ c.in_ok-body.ensures ∙ ap (λ ss. folded_body (constants_by c.args.tables.now) (statements_of ss)) c.as_slice.ensures in
    subst (λ (k : ℕ). AreResolved (named k) (statements_of c.as_slice-2.result.now)) (sym c.in_ok-number.ensures) (subst (AreResolved (named (c.args.index + 1))) (sym body) c.requires.resolved)

pub short_code-requires-clause-accepted : goal.short_code-requires-clause-accepted
short_code-requires-clause-accepted c =
    let m = method_of c.args.method.now in
    let named : ℕ → Names = λ k. names_from c.args.kinds.now k c.args.tables.now m.place in
    let body : statements_of c.as_slice-2.result.now ≡ folded_body (constants_by c.args.tables.now) m.body = ap statements_of c.as_slice-2.ensures ∙ c.in_ok-body.ensures ∙ ap (λ ss. folded_body (constants_by c.args.tables.now) (statements_of ss)) c.as_slice.ensures in
    subst (λ (k : ℕ). (f : Fault) → ¬ IsMethodFault (named k) (rebodied m (statements_of c.as_slice-2.result.now)) f) (sym c.in_ok-number.ensures)
    (subst (λ (ss : Statements). (f : Fault) → ¬ IsMethodFault (named (c.args.index + 1)) (rebodied m ss) f) (sym body) c.requires.accepted)

pub returns : goal.returns
returns c =
    let m = method_of c.args.method.now in
    let named : ℕ → Names = λ k. names_from c.args.kinds.now k c.args.tables.now m.place in
    let body : statements_of c.as_slice-2.result.now ≡ folded_body (constants_by c.args.tables.now) m.body = ap statements_of c.as_slice-2.ensures ∙ c.in_ok-body.ensures ∙ ap (λ ss. folded_body (constants_by c.args.tables.now) (statements_of ss)) c.as_slice.ensures in
    subst (λ (k : ℕ). IfOk c.short_code.result (IsShortCode (named k) m (folded_body (constants_by c.args.tables.now) m.body))) c.in_ok-number.ensures
    (subst (λ (ss : Statements). IfOk c.short_code.result (IsShortCode (named c.in_ok-number.number) m ss)) body c.short_code.ensures)
