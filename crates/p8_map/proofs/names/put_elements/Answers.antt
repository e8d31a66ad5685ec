use Rattle.std.proofs.Common.{arith}
use Rattle.std.proofs.lemmas.Grind.{common_steps}
use Rattle.p8_map.proofs.Naming.{element-step}
use Rattle.p8_map.proofs.names.put_elements.Goals as goal

pub loop-index-preserved : goal.loop-index-preserved
loop-index-preserved c =
    let step = element-step c.args.name.now c.loop-index.index c.args.count c.loop-index-test.true in
    grind (arith, common_steps, step)
