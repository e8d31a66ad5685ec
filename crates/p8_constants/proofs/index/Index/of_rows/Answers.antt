use Rattle.std.proofs.Common.{◌≡◌, ◌≤◌, ◌∙◌, ◌-◌, ℕ, length, ap, sym, arith}
use Rattle.std.proofs.lemmas.List.{length-map}
use Rattle.p8_fold.specs.ConstantEntries.{setting_of}
use Rattle.p8_fold.proofs.Bytes.{at_bytes-empty}
use Rattle.p8_constants.specs.Rows.{rows_from, row_from, row_at, node_of, or_else, named_here}
use Rattle.p8_constants.proofs.Rowing.{index_from, index_begin, index_more, index_end}
use Rattle.p8_constants.proofs.index.Index.of_rows.Goals as goal

pub loop-k-init : goal.loop-k-init
loop-k-init c = (
  omega (arith, c.len-k.ensures),
  λ n.
      at_bytes-empty c.new-names.result n c.new-names.ensures.empty
      ∙ sym (index_begin (setting_of c.args.outside.now) (rows_from c.args.rows.now) c.len-k.result (node_of (rows_from c.args.rows.now)) n (omega (arith, length-map c.args.rows.now row_from, c.len-k.ensures))),
)

pub loop-k-preserved : goal.loop-k-preserved
loop-k-preserved c = (
  omega arith,
  λ n.
      let outside = setting_of c.args.outside.now in
      let rows = rows_from c.args.rows.now in
      let behind = index_from outside rows c.loop-k.k (node_of rows) n in
      let within : c.loop-k.k ≤ length (rows_from c.args.rows.now) = omega (arith, length-map c.args.rows.now row_from, c.loop-k.invariant.0) in
      c.in_ok-add.ensures n
      ∙ (ap (λ o. or_else (named_here outside n c.item.result.now.name c.node.result) o) (c.loop-k.invariant.1 n)
      ∙ (ap (λ x. or_else (named_here outside n x.name c.node.result) behind) c.item.ensures
      ∙ (ap (λ m. or_else (named_here outside n (row_at rows (c.loop-k.k - 1)).item.name m) behind) c.node.ensures
      ∙ sym (index_more outside rows c.loop-k.k (node_of rows) n c.loop-k-test.true within)))),
)

pub returns : goal.returns
returns c = λ n.
    let rows = rows_from c.args.rows.now in
    let none : c.loop-k.k ≡ 0 = omega arith in
    c.loop-k.invariant.1 n ∙ ap (λ (k : ℕ). index_from (setting_of c.args.outside.now) rows k (node_of rows) n) none ∙ index_end (setting_of c.args.outside.now) rows (node_of rows) n
