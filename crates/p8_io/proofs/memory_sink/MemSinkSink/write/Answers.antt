use Rattle.std.proofs.Common.{◌-◌, length, arith}
use Rattle.std.proofs.lemmas.Grind.{common_steps}
use Rattle.p8_io.proofs.memory_sink.MemSinkSink.write.Goals as goal

pub returns-clause-writes : goal.returns-clause-writes
returns-clause-writes c = (grind (arith, common_steps), (c.args.self.now.room - length c.args.self.now.bytes, grind (arith, common_steps)))
