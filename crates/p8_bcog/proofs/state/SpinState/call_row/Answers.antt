use Rattle.p8_bcog.proofs.Taken.{own_bound, object_bounds, indexed_bounds}
use Rattle.p8_bcog.proofs.state.SpinState.call_row.Goals as goal

pub call_own-requires : goal.call_own-requires
call_own-requires c = own_bound c.args.op c.requires.taken c.in-5.is

pub call_object-requires-clause-o : goal.call_object-requires-clause-o
call_object-requires-clause-o c = (object_bounds c.args.op c.requires.taken c.in-6.is).0

pub call_object-requires-clause-m : goal.call_object-requires-clause-m
call_object-requires-clause-m c = (object_bounds c.args.op c.requires.taken c.in-6.is).1

pub call_indexed-requires-clause-o : goal.call_indexed-requires-clause-o
call_indexed-requires-clause-o c = (indexed_bounds c.args.op c.requires.taken c.in-7.is).0

pub call_indexed-requires-clause-n : goal.call_indexed-requires-clause-n
call_indexed-requires-clause-n c = (indexed_bounds c.args.op c.requires.taken c.in-7.is).1

pub call_indexed-requires-clause-m : goal.call_indexed-requires-clause-m
call_indexed-requires-clause-m c = (indexed_bounds c.args.op c.requires.taken c.in-7.is).2
