use Rattle.std.proofs.Common.{◌∷◌, subst}
use Rattle.p8_ledger.specs.declared.ledger.Taken.{Taken}
use Rattle.p8_ledger.specs.declared.steps.Step.TheVariants.{Took}
use Rattle.p8_desk.specs.Seats.{Granted}
use Rattle.p8_desk.proofs.Working.{comes-as, turn-fits, settled-done, settled-over}
use Rattle.p8_desk.proofs.rider.settle.Goals as goal

pub take-requires-clause-comes : goal.take-requires-clause-comes
take-requires-clause-comes c =
    let h = c.requires.granted in
    let g = subst (λ (t : Taken). Granted h.0 c.args.cog h.1 t c.args.ledger.now) c.in-Done.is h.2 in
    (h.0, h.1, comes-as h.0 c.args.cog h.1 c.args.ledger.now c.args.runner.now c.in-Done.turn c.in-Done.running c.state-state.result _ g h.3 (c.memory.ensures h.0 (Took c.in-Done.turn ∷ h.1) g.0) (c.state-state.ensures h.0 (Took c.in-Done.turn ∷ h.1) g.0))

pub take-requires-clause-near : goal.take-requires-clause-near
take-requires-clause-near c =
    let h = c.requires.granted in
    turn-fits c.args.cog h.0 h.1 c.in-Done.turn c.in-Done.running c.args.ledger.now c.requires.near (subst (λ (t : Taken). Granted h.0 c.args.cog h.1 t c.args.ledger.now) c.in-Done.is h.2)

pub returns-in-Done : goal.returns-in-Done
returns-in-Done c = λ w r granted rides.
    let g = subst (λ (t : Taken). Granted w c.args.cog r t c.args.ledger.now) c.in-Done.is granted in
    settled-done w c.args.cog r c.args.ledger.now c.take.new.self c.in-Done.turn c.in-Done.running g
    (c.take.ensures w r (comes-as w c.args.cog r c.args.ledger.now c.args.runner.now c.in-Done.turn c.in-Done.running c.state-state.result _ g rides (c.memory.ensures w (Took c.in-Done.turn ∷ r) g.0) (c.state-state.ensures w (Took c.in-Done.turn ∷ r) g.0)))

pub returns-in-Over : goal.returns-in-Over
returns-in-Over c = λ w r granted rides.
    settled-over w c.args.cog r c.args.ledger.now c.args.runner.now (subst (λ (t : Taken). Granted w c.args.cog r t c.args.ledger.now) c.in-Over.is granted) rides
