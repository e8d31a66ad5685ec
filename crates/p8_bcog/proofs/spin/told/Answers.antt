use Rattle.std.proofs.Common.{◌∙◌, [], sym, ap, subst}
use Rattle.p8_access.specs.declared.kinds.Access.{Access}
use Rattle.p8_access.specs.Timing.{Outcome, Asks, earliest}
use Rattle.p8_bcog.specs.declared.stage.SpinStage.{SpinStage}
use Rattle.p8_bcog.specs.declared.state.SpinState.{SpinState}
use Rattle.p8_bcog.specs.Standing.{standing}
use Rattle.p8_bcog.specs.Stops.{Stops}
use Rattle.p8_bcog.proofs.Answering.{entering_here, asked_here, halted_here}
use Rattle.p8_bcog.proofs.spin.told.Goals as goal

pub returns-in-Entering-clause-stops : goal.returns-in-Entering-clause-stops
returns-in-Entering-clause-stops c = λ reached early late ready.
    subst (λ (o : Outcome SpinState). Stops o reached c.args.until c.below.result)
    (sym (entering_here c.args.cog c.args.stage.now c.args.state.now c.args.clock c.in-Entering.is
    ∙ ap (λ (a : Access). Asks (earliest c.args.cog c.args.clock a) a) (sym c.write_of.ensures.access)))
    (c.below.ensures.stops reached early late)

pub returns-then-clock-until-clause-stops : goal.returns-then-clock-until-clause-stops
returns-then-clock-until-clause-stops c = λ reached early late ready.
    (c.args.state.now, ap (λ (st : SpinStage). standing c.args.cog st c.args.state.now c.args.clock []) c.in-Ready.is, sym (ready c.in-Ready.is), c.if-clock-until.true)

pub returns-in-Asked-clause-stops : goal.returns-in-Asked-clause-stops
returns-in-Asked-clause-stops c = λ reached early late ready.
    subst (λ (o : Outcome SpinState). Stops o reached c.args.until c.below-in-Asked.result)
    (sym (asked_here c.args.cog c.args.stage.now c.args.state.now c.args.clock c.in-Asked.access c.in-Asked.later c.in-Asked.is))
    (c.below-in-Asked.ensures.stops reached early late)

pub returns-in-Halted-clause-stops : goal.returns-in-Halted-clause-stops
returns-in-Halted-clause-stops c = λ reached early late ready.
    subst (λ (o : Outcome SpinState). Stops o reached c.args.until c.below-in-Halted.result)
    (sym (halted_here c.args.cog c.args.stage.now c.args.state.now c.args.clock c.in-Halted.reason c.in-Halted.is))
    (c.below-in-Halted.ensures.stops reached early late)
