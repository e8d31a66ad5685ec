use Rattle.std.proofs.Common.{◌≡◌, sym, ap, ◌∙◌, subst, true, false, ◌<◌, not}
use Rattle.std.specs.Prelude.{count_by}
use Rattle.p8_tree.specs.Views.{statements_of}
use Rattle.p8_gen.specs.Scopes.{names_from}
use Rattle.p8_stmt.specs.Rounds.{IsBelowAll, after_round}
use Rattle.p8_stmt.proofs.Least.{next-below, next-narrower, settled}
use Rattle.p8_stmt.proofs.widths.least_widths.Goals as goal

pub returns-then-is_same : goal.returns-then-is_same
returns-then-is_same c =
    let n = names_from c.args.kinds.now c.args.number c.args.tables.now c.args.method.now.place in
    let ss = statements_of c.args.body.now in
    let is : c.in_ok-more.more.items ≡ after_round n ss c.rounds.widths.items = c.in_ok-more.ensures ∙ ap (after_round n ss) c.as_slice.ensures.value in
    let same : c.as_slice-in-rounds.result.now ≡ c.as_slice-in-rounds-2.result.now = c.is_same.ensures.0 c.if-is_same.true in
    settled n ss c.rounds.widths.items c.rounds.invariant (sym is ∙ sym c.as_slice-in-rounds.ensures.value ∙ same ∙ c.as_slice-in-rounds-2.ensures.value) c.requires

pub rounds-smaller : goal.rounds-smaller
rounds-smaller c =
    let n = names_from c.args.kinds.now c.args.number c.args.tables.now c.args.method.now.place in
    let ss = statements_of c.args.body.now in
    let is : c.in_ok-more.more.items ≡ after_round n ss c.rounds.widths.items = c.in_ok-more.ensures ∙ ap (after_round n ss) c.as_slice.ensures.value in
    let other : ¬ (after_round n ss c.rounds.widths.items ≡ c.rounds.widths.items) = λ same.
    let yes : c.is_same.result ≡ true = c.is_same.ensures.1 (c.as_slice-in-rounds.ensures.value ∙ is ∙ same ∙ sym c.as_slice-in-rounds-2.ensures.value) in
    let no : c.is_same.result ≡ false = c.if-is_same.false in
    absurd (cc) in
    subst (λ ws. count_by not ws < count_by not c.rounds.widths.items) (sym is) (next-narrower n ss c.rounds.widths.items c.rounds.invariant other)

pub rounds-preserved : goal.rounds-preserved
rounds-preserved c =
    let n = names_from c.args.kinds.now c.args.number c.args.tables.now c.args.method.now.place in
    let ss = statements_of c.args.body.now in
    let is : c.in_ok-more.more.items ≡ after_round n ss c.rounds.widths.items = c.in_ok-more.ensures ∙ ap (after_round n ss) c.as_slice.ensures.value in
    subst (IsBelowAll n ss) (sym is) (next-below n ss c.rounds.widths.items c.rounds.invariant)
