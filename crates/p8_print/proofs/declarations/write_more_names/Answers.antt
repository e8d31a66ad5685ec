use Rattle.p8_print.proofs.WrittenDeclarations.{name_written}
use Rattle.p8_print.proofs.declarations.write_more_names.Goals as goal

pub loop-name-preserved : goal.loop-name-preserved
loop-name-preserved c =
    name_written c.args.names.now c.loop-name.name-index c.name-item.result c.args.script.now c.loop-name-test.true c.name-item.is c.loop-name.invariant c.in_ok-write_word.ensures c.in_ok-write_name.ensures
