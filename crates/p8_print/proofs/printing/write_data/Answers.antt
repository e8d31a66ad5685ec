use Rattle.p8_tree.specs.Views.{line_of}
use Rattle.p8_print.specs.DataWords.{words_of_line}
use Rattle.p8_print.proofs.WrittenItems.{line_written}
use Rattle.p8_print.proofs.printing.write_data.Goals as goal

pub loop-line-preserved : goal.loop-line-preserved
loop-line-preserved c =
    line_written line_of words_of_line c.args.lines.now c.loop-line.line-index c.line-item.result c.args.script.now c.loop-line.script c.loop-line-test.true c.line-item.is c.loop-line.invariant c.in_ok-begin_line.ensures c.in_ok-write_line.ensures c.in_ok-end_line.ensures
