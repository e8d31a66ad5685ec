use Rattle.p8_print.proofs.WrittenItems.{test_written}
use Rattle.p8_print.proofs.lines.write_tests.Goals as goal

pub loop-i-preserved : goal.loop-i-preserved
loop-i-preserved c = test_written c.args.tests.now c.loop-i.i c.index-tests-i.result c.args.script.now c.loop-i.script c.loop-i-test.true c.index-tests-i.is c.loop-i.invariant c.in_ok-write_separator.ensures c.in_ok-write_test.ensures
