use Rattle.std.proofs.Common.{arith}
use Rattle.p8_bcog.specs.Quick.{finishes}
use Rattle.p8_bcog.proofs.FirstBytes.{reads-three}
use Rattle.p8_bcog.proofs.state.SpinState.quick.Goals as goal

pub returns : goal.returns
returns c = reads-three (λ x. finishes x c.quick_on.new.self) c.args.code.now c.args.self.now c.quick_on.new.self c.from-at.result c.byte_of.result c.byte_of-2.result c.byte_of-3.result c.quick_on.result c.from-at.ensures (omega arith) (omega arith) c.byte_of.ensures c.byte_of-2.ensures c.byte_of-3.ensures c.quick_on.ensures
