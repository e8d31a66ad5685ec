use Rattle.std.proofs.Common.{arith}
use Rattle.p8_bcog.specs.Stops.{at_stage}
use Rattle.p8_bcog.proofs.FirstBytes.{reads-two}
use Rattle.p8_bcog.proofs.state.SpinState.quick_variable.Goals as goal

pub returns-clause-does : goal.returns-clause-does
returns-clause-does c = reads-two (λ done. at_stage c.quick_variable_on.new.stage c.quick_variable_on.new.self) c.args.code.now c.args.self.now c.quick_variable_on.new.self c.from-at.result c.byte_of.result c.byte_of-2.result c.quick_variable_on.result c.from-at.ensures (omega arith) (omega arith) c.byte_of.ensures c.byte_of-2.ensures c.quick_variable_on.ensures.does
