use Rattle.std.proofs.Common.{◌≡◌, ◌∙◌, ◌%◌, ap, sym, rules}
use Rattle.p8_constants.specs.Rows.{rows_from}
use Rattle.p8_constants.proofs.Listing.{even_is, odd_is}
use Rattle.p8_constants.proofs.rows.Rows.expression.Goals as goal

pub returns-then-node-eq0 : goal.returns-then-node-eq0
returns-then-node-eq0 c =
    let even : c.args.node % 2 ≡ 0 = search rules in
    ap (λ x. x.value) c.item-item.ensures ∙ sym (even_is (rows_from c.args.self.now) c.args.node even)

pub returns-else-node-eq0 : goal.returns-else-node-eq0
returns-else-node-eq0 c =
    let odd : ¬ (c.args.node % 2 ≡ 0) = search rules in
    ap (λ x. x.step) c.item-item.ensures ∙ sym (odd_is (rows_from c.args.self.now) c.args.node odd)
