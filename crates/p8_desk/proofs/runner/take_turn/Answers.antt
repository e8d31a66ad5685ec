use Rattle.p8_desk.proofs.runner.take_turn.Goals as goal

pub restart-requires-clause-window : goal.restart-requires-clause-window
restart-requires-clause-window c = (c.requires.startable c.in-Running.origin c.if-running.false c.in-Running.is).1
