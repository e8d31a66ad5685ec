use Rattle.p8_print.proofs.WrittenDeclarations.{local_written}
use Rattle.p8_print.proofs.declarations.write_more_locals.Goals as goal

pub loop-local-preserved : goal.loop-local-preserved
loop-local-preserved c =
    local_written c.args.locals.now c.loop-local.local-index c.local-item.result c.args.script.now c.loop-local-test.true c.local-item.is c.loop-local.invariant c.in_ok-write_word.ensures c.in_ok-write_name_and_count.ensures
