use Rattle.std.proofs.Common.{◌+◌, ◌++◌, ◌∷◌, [], refl, sym, ap, ◌∙◌, arith}
use Rattle.p8_access.specs.declared.kinds.Width.TheVariants.{Long}
use Rattle.p8_access.specs.declared.kinds.Access.TheVariants.{Halt}
use Rattle.p8_access.specs.Replaying.{behind-later, behind-near}
use Rattle.p8_bcog.specs.declared.stage.SpinStage.{SpinStage}
use Rattle.p8_bcog.specs.declared.stage.SpinStage.TheVariants.{Ready, Over}
use Rattle.p8_bcog.specs.Accesses.{word_in, write_of}
use Rattle.p8_bcog.proofs.Keeping.{announces_none, placed}
use Rattle.p8_bcog.proofs.Answering.{came, asked_here, halted_here, entering_here, never_asks, asked_over, halted_over, resumed_stands, entering_stands}
use Rattle.p8_bcog.specs.Standing.{is_under}
use Rattle.p8_bcog.specs.Stops.{announced_at, resumed}
use Rattle.p8_bcog.proofs.spin.SpinCogLife.take_answer.Goals as goal

pub unreachable-requires : goal.unreachable-requires
unreachable-requires c = never_asks c.args.self.now.cog c.args.self.now.stage c.args.self.now.state c.args.self.now.clock c.args.self.now.reached (announced_at c.args.self.now.asking c.args.self.now.cog c.args.self.now.stage c.args.self.now.state c.args.self.now.clock) c.args.turn.now c.in-Ready.is c.args.self.now.announces c.requires.announced

pub invariant_of-self : goal.invariant_of-self
invariant_of-self c =
    let h = came c.args.self.now.cog c.args.self.now.stage c.args.self.now.state c.args.self.now.clock c.args.self.now.reached (announced_at c.args.self.now.asking c.args.self.now.cog c.args.self.now.stage c.args.self.now.state c.args.self.now.clock) c.args.turn.now (write_of Long c.args.self.now.state.frame 0) (entering_here c.args.self.now.cog c.args.self.now.stage c.args.self.now.state c.args.self.now.clock c.in-Entering.is) c.args.self.now.announces c.requires.announced in
    record {
      cog_below = c.args.self.now.cog_below;
      early = omega arith;
      late = omega arith;
      below = omega (arith, c.requires.clock);
      counts = omega (arith, h.2, c.args.self.now.counts);
      ready = λ is. refl;
      sound = tt;
      announces = announces_none c.args.self.now.cog Ready c.args.self.now.state (c.args.turn.now.key.clock + 7) (c.args.turn.now.key.clock + 7);
    }

pub invariant_of-self-then-is_last : goal.invariant_of-self-then-is_last
invariant_of-self-then-is_last c =
    let h = came c.args.self.now.cog c.args.self.now.stage c.args.self.now.state c.args.self.now.clock c.args.self.now.reached (announced_at c.args.self.now.asking c.args.self.now.cog c.args.self.now.stage c.args.self.now.state c.args.self.now.clock) c.args.turn.now c.in-Asked.access (asked_here c.args.self.now.cog c.args.self.now.stage c.args.self.now.state c.args.self.now.clock c.in-Asked.access c.in-Asked.later c.in-Asked.is) c.args.self.now.announces c.requires.announced in
    let later = behind-later c.args.self.now.cog c.args.self.now.clock c.in-Asked.access c.args.turn.now.key.clock h.1 in
    let near = behind-near c.args.self.now.cog c.args.self.now.clock c.in-Asked.access c.args.turn.now.key.clock h.1 in
    record {
      cog_below = c.args.self.now.cog_below;
      early = omega arith;
      late = omega arith;
      below = omega (arith, near, c.behind-clock.ensures, c.requires.clock);
      counts = omega (arith, later, h.2, c.behind-clock.ensures, c.args.self.now.counts);
      ready = λ is. refl;
      sound = tt;
      announces = announces_none c.args.self.now.cog Over c.args.self.now.state c.behind-clock.result c.behind-clock.result;
    }

pub invariant_of-self-else-is_last : goal.invariant_of-self-else-is_last
invariant_of-self-else-is_last c =
    let h = came c.args.self.now.cog c.args.self.now.stage c.args.self.now.state c.args.self.now.clock c.args.self.now.reached (announced_at c.args.self.now.asking c.args.self.now.cog c.args.self.now.stage c.args.self.now.state c.args.self.now.clock) c.args.turn.now c.in-Asked.access (asked_here c.args.self.now.cog c.args.self.now.stage c.args.self.now.state c.args.self.now.clock c.in-Asked.access c.in-Asked.later c.in-Asked.is) c.args.self.now.announces c.requires.announced in
    let later = behind-later c.args.self.now.cog c.args.self.now.clock c.in-Asked.access c.args.turn.now.key.clock h.1 in
    let near = behind-near c.args.self.now.cog c.args.self.now.clock c.in-Asked.access c.args.turn.now.key.clock h.1 in
    record {
      cog_below = c.args.self.now.cog_below;
      early = omega arith;
      late = omega arith;
      below = omega (arith, near, c.behind-clock.ensures, c.requires.clock);
      counts = omega (arith, later, h.2, c.behind-clock.ensures, c.args.self.now.counts, c.done_by.ensures.most);
      ready = λ is. refl;
      sound = c.resume.ensures.sound;
      announces = announces_none c.args.self.now.cog c.resume.new.stage c.resume.new.self c.behind-clock.result c.behind-clock.result;
    }

pub invariant_of-self-in-Halted : goal.invariant_of-self-in-Halted
invariant_of-self-in-Halted c =
    let h = came c.args.self.now.cog c.args.self.now.stage c.args.self.now.state c.args.self.now.clock c.args.self.now.reached (announced_at c.args.self.now.asking c.args.self.now.cog c.args.self.now.stage c.args.self.now.state c.args.self.now.clock) c.args.turn.now (Halt c.in-Halted.reason) (halted_here c.args.self.now.cog c.args.self.now.stage c.args.self.now.state c.args.self.now.clock c.in-Halted.reason c.in-Halted.is) c.args.self.now.announces c.requires.announced in
    record {
      cog_below = c.args.self.now.cog_below;
      early = omega arith;
      late = omega arith;
      below = omega (arith, c.requires.clock);
      counts = omega (arith, h.2, c.args.self.now.counts);
      ready = λ is. refl;
      sound = tt;
      announces = announces_none c.args.self.now.cog Over c.args.self.now.state (c.args.turn.now.key.clock + 1) (c.args.turn.now.key.clock + 1);
    }

pub returns-in-Entering-clause-stands : goal.returns-in-Entering-clause-stands
returns-in-Entering-clause-stands c = entering_stands c.args.self.now.counter c.args.self.now.code c.args.self.now.done c.args.self.now.cog c.args.self.now.stage c.args.self.now.state c.args.self.now.clock c.args.turn.now c.in-Entering.is

pub returns-in-Entering-clause-placed : goal.returns-in-Entering-clause-placed
returns-in-Entering-clause-placed c = λ b ts stands live.
    placed c.args.self.now.counter c.args.self.now.code c.args.self.now.done c.args.self.now.cog Ready c.args.self.now.state (c.args.turn.now.key.clock + 7) b (ts ++ c.args.turn.now ∷ []) (returns-in-Entering-clause-stands c b ts stands) live

pub returns-then-is_last-clause-stands : goal.returns-then-is_last-clause-stands
returns-then-is_last-clause-stands c =
    let h = came c.args.self.now.cog c.args.self.now.stage c.args.self.now.state c.args.self.now.clock c.args.self.now.reached (announced_at c.args.self.now.asking c.args.self.now.cog c.args.self.now.stage c.args.self.now.state c.args.self.now.clock) c.args.turn.now c.in-Asked.access (asked_here c.args.self.now.cog c.args.self.now.stage c.args.self.now.state c.args.self.now.clock c.in-Asked.access c.in-Asked.later c.in-Asked.is) c.args.self.now.announces c.requires.announced in
    asked_over c.args.self.now.counter c.args.self.now.code c.args.self.now.done c.args.self.now.cog c.args.self.now.stage c.args.self.now.state c.args.self.now.state c.args.self.now.clock c.behind-clock.result c.in-Asked.access c.in-Asked.later c.args.turn.now c.in-Asked.is (sym c.is_last.ensures ∙ c.if-is_last.true) h.0

pub returns-then-is_last-clause-placed : goal.returns-then-is_last-clause-placed
returns-then-is_last-clause-placed c = λ b ts stands live.
    placed c.args.self.now.counter c.args.self.now.code (c.args.self.now.done + 1) c.args.self.now.cog Over c.args.self.now.state c.behind-clock.result b (ts ++ c.args.turn.now ∷ []) (returns-then-is_last-clause-stands c b ts stands) live

pub returns-else-is_last-clause-stands : goal.returns-else-is_last-clause-stands
returns-else-is_last-clause-stands c =
    resumed_stands c.args.self.now.counter c.args.self.now.code c.args.self.now.done c.done_by.result c.args.self.now.cog c.args.self.now.stage c.resume.new.stage c.args.self.now.state c.resume.new.self c.args.self.now.clock c.behind-clock.result (word_in c.args.turn.now.answer) c.in-Asked.access c.in-Asked.later c.args.turn.now c.in-Asked.is (sym c.is_last.ensures ∙ c.if-is_last.false) (c.resume.ensures.under ∙ ap is_under c.in-Asked.is) c.done_by.ensures.done c.behind-clock.ensures refl
    (c.resume.ensures.does ∙ ap (λ (st : SpinStage). resumed st c.args.self.now.state (word_in c.args.turn.now.answer)) c.in-Asked.is)

pub returns-else-is_last-clause-placed : goal.returns-else-is_last-clause-placed
returns-else-is_last-clause-placed c = λ b ts stands live.
    placed c.args.self.now.counter c.args.self.now.code (c.args.self.now.done + c.done_by.result) c.args.self.now.cog c.resume.new.stage c.resume.new.self c.behind-clock.result b (ts ++ c.args.turn.now ∷ []) (returns-else-is_last-clause-stands c b ts stands) live

pub returns-else-is_last-clause-reached : goal.returns-else-is_last-clause-reached
returns-else-is_last-clause-reached c =
    let h = came c.args.self.now.cog c.args.self.now.stage c.args.self.now.state c.args.self.now.clock c.args.self.now.reached (announced_at c.args.self.now.asking c.args.self.now.cog c.args.self.now.stage c.args.self.now.state c.args.self.now.clock) c.args.turn.now c.in-Asked.access (asked_here c.args.self.now.cog c.args.self.now.stage c.args.self.now.state c.args.self.now.clock c.in-Asked.access c.in-Asked.later c.in-Asked.is) c.args.self.now.announces c.requires.announced in
    omega (arith, behind-later c.args.self.now.cog c.args.self.now.clock c.in-Asked.access c.args.turn.now.key.clock h.1, c.behind-clock.ensures)

pub returns-else-is_last-clause-lead : goal.returns-else-is_last-clause-lead
returns-else-is_last-clause-lead c =
    let h = came c.args.self.now.cog c.args.self.now.stage c.args.self.now.state c.args.self.now.clock c.args.self.now.reached (announced_at c.args.self.now.asking c.args.self.now.cog c.args.self.now.stage c.args.self.now.state c.args.self.now.clock) c.args.turn.now c.in-Asked.access (asked_here c.args.self.now.cog c.args.self.now.stage c.args.self.now.state c.args.self.now.clock c.in-Asked.access c.in-Asked.later c.in-Asked.is) c.args.self.now.announces c.requires.announced in
    omega (arith, behind-near c.args.self.now.cog c.args.self.now.clock c.in-Asked.access c.args.turn.now.key.clock h.1, c.behind-clock.ensures)

pub returns-in-Halted-clause-stands : goal.returns-in-Halted-clause-stands
returns-in-Halted-clause-stands c =
    let h = came c.args.self.now.cog c.args.self.now.stage c.args.self.now.state c.args.self.now.clock c.args.self.now.reached (announced_at c.args.self.now.asking c.args.self.now.cog c.args.self.now.stage c.args.self.now.state c.args.self.now.clock) c.args.turn.now (Halt c.in-Halted.reason) (halted_here c.args.self.now.cog c.args.self.now.stage c.args.self.now.state c.args.self.now.clock c.in-Halted.reason c.in-Halted.is) c.args.self.now.announces c.requires.announced in
    halted_over c.args.self.now.counter c.args.self.now.code c.args.self.now.done c.args.self.now.cog c.args.self.now.stage c.args.self.now.state c.args.self.now.state c.args.self.now.clock (c.args.turn.now.key.clock + 1) c.in-Halted.reason c.args.turn.now c.in-Halted.is h.0

pub returns-in-Halted-clause-placed : goal.returns-in-Halted-clause-placed
returns-in-Halted-clause-placed c = λ b ts stands live.
    placed c.args.self.now.counter c.args.self.now.code (c.args.self.now.done + 1) c.args.self.now.cog Over c.args.self.now.state (c.args.turn.now.key.clock + 1) b (ts ++ c.args.turn.now ∷ []) (returns-in-Halted-clause-stands c b ts stands) live
