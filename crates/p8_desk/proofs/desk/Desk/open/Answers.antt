use Rattle.p8_desk.proofs.desk.Desk.open.Goals as goal

pub returns-clause-passes : goal.returns-clause-passes
returns-clause-passes c = c.in_ok-passes.ensures c.args.start c.in_ok-table.ensures.seat.1
