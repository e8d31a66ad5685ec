use Rattle.std.proofs.Common.{sym}
use Rattle.p8_bcog.proofs.state.SpinState.bytecode.Goals as goal

pub returns-in-Some-clause-clocks : goal.returns-in-Some-clause-clocks
returns-in-Some-clause-clocks c = sym (c.in-Some.ensures c.args.memory.now c.args.cog c.requires.code).1
