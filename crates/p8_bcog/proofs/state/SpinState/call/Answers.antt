use Rattle.p8_bcog.proofs.Looping.{called_by}
use Rattle.p8_bcog.proofs.state.SpinState.call.Goals as goal

pub returns-clause-does : goal.returns-clause-does
returns-clause-does c =
    called_by c.args.callee c.args.self.now c.frame_end-result.result c.next_address.result c.from.result c.len.result c.write_of.result c.write_of.ensures.access c.frame_end-result.ensures c.next_address.ensures c.from.ensures c.len.ensures.len
