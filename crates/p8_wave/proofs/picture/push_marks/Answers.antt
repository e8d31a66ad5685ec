use Rattle.p8_wave.proofs.Marking.{one-mark, goes-past}
use Rattle.p8_wave.proofs.picture.push_marks.Goals as goal

pub loop-column-preserved : goal.loop-column-preserved
loop-column-preserved c =
    let i = c.loop-column.invariant in
    record {
      text = one-mark _ c.args.pin c.args.columns.now c.loop-column.column-index _ c.loop-column-test.true c.loop-column.trace i.at c.args.ascii c.mark-mark.result c.loop-column.out.items c.push_text.new.out.items c.text.result.now _
          c.mark-mark.ensures.mark i.text c.in_ok-push_text.ensures c.text.ensures;
      at = goes-past _ c.args.pin c.args.columns.now c.loop-column.column-index _ c.loop-column-test.true c.loop-column.trace i.at c.mark-mark.new.self c.mark-mark.ensures.goes_on;
    }
