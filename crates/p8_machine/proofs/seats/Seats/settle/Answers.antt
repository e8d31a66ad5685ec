use Rattle.p8_machine.proofs.seats.Seats.settle.Goals as goal

pub returns-then-running-clause-takes : goal.returns-then-running-clause-takes
returns-then-running-clause-takes c = λ before after running was is. c.take.ensures.takes before after was is

pub returns-else-running-clause-begins : goal.returns-else-running-clause-begins
returns-else-running-clause-begins c = λ life running startable window at. c.begin.ensures.begins life startable window at
