use Rattle.std.proofs.Common.{refl, subst, Bool}
use Rattle.p8_access.specs.Hub.{cog_state}
use Rattle.p8_ledger.specs.Standing.{FitsState}
use Rattle.p8_ledger.specs.Records.{turns}
use Rattle.p8_desk.specs.Runners.{Comes}
use Rattle.p8_desk.proofs.Running.{announced-life, can-begin, rides-after}
use Rattle.p8_desk.proofs.runner.Runner.take.Goals as goal

pub take_turn-requires-clause-announced : goal.take_turn-requires-clause-announced
take_turn-requires-clause-announced c = λ running.
    let h = c.requires.comes in
    announced-life h.0 c.args.turn.now.key.cog h.1 c.args.self.now c.args.turn.now (subst (λ (b : Bool). FitsState b (cog_state h.0 (turns h.1) c.args.turn.now.key.cog)) running h.2.fits_state) (h.2.announced running) h.2.rides

pub take_turn-requires-clause-own : goal.take_turn-requires-clause-own
take_turn-requires-clause-own c = c.requires.comes.2.rides.cog

pub take_turn-requires-clause-startable : goal.take_turn-requires-clause-startable
take_turn-requires-clause-startable c = λ origin starting runs.
    let h = c.requires.comes in
    can-begin h.0 h.1 c.args.self.now c.args.memory.now c.args.state c.args.turn.now (subst (λ (b : Bool). Comes h.0 h.1 c.args.self.now c.args.memory.now c.args.state c.args.turn.now b) starting h.2) origin c.requires.near runs

pub returns : goal.returns
returns c = λ w r comes.
    let e = c.take_turn.ensures in
    rides-after w r c.args.self.now _ c.args.memory.now c.args.state c.args.turn.now c.args.running comes refl refl e.cog e.takes e.begins e.answered e.anew
