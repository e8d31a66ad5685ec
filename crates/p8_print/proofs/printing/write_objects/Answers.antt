use Rattle.p8_tree.specs.Views.{child_of}
use Rattle.p8_print.specs.DeclarationWords.{words_of_child}
use Rattle.p8_print.proofs.WrittenItems.{line_written}
use Rattle.p8_print.proofs.printing.write_objects.Goals as goal

pub loop-item-preserved : goal.loop-item-preserved
loop-item-preserved c =
    line_written child_of words_of_child c.args.items.now c.loop-item.item-index c.item-item.result c.args.script.now c.loop-item.script c.loop-item-test.true c.item-item.is c.loop-item.invariant c.in_ok-begin_line.ensures c.in_ok-write_object.ensures c.in_ok-end_line.ensures
