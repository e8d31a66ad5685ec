use Rattle.p8_statements.proofs.statements.counter.Goals as goal

pub returns : goal.returns
returns c = c.counter_of.ensures c.args.tree.place
