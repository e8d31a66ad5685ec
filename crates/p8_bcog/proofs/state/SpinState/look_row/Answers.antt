use Rattle.p8_bcog.proofs.Taken.{start_bounds}
use Rattle.p8_bcog.proofs.state.SpinState.look_row.Goals as goal

pub start_method-requires-clause-m : goal.start_method-requires-clause-m
start_method-requires-clause-m c = (start_bounds c.args.op c.requires.taken c.in-21.is).0

pub start_method-requires-clause-count : goal.start_method-requires-clause-count
start_method-requires-clause-count c = (start_bounds c.args.op c.requires.taken c.in-21.is).1
