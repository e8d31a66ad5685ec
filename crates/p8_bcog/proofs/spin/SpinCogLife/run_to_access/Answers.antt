use Rattle.std.proofs.Common.{◌≡◌, ℕ, ◌+◌, ◌*◌, [], true, false, sym, subst, ◌∙◌, arith}
use Rattle.p8_access.specs.Lives.{IsWithin}
use Rattle.p8_bcog.specs.Standing.{standing}
use Rattle.p8_bcog.proofs.Keeping.{ran_stands, behind_early, behind_late, behind_ready, stops_tells, stops_thorough, placed, stops_near, stops_announces, told_announced, ran_spends, rest_spends, again, ready_by, not_ready, ran_far, rest_far, over_ended}
use Rattle.p8_bcog.proofs.spin.SpinCogLife.run_to_access.Goals as goal

pub invariant_of-self : goal.invariant_of-self
invariant_of-self c = record {
  cog_below = c.args.self.now.cog_below;
  early = behind_early c.run-ran.result.done c.args.budget c.run-ran.result.begun c.run-ran.result.clock c.args.until c.run-ran.new.stage c.run-ran.ensures.is_behind;
  late = behind_late c.run-ran.result.done c.args.budget c.run-ran.result.begun c.run-ran.result.clock c.args.until c.run-ran.new.stage c.run-ran.ensures.is_behind;
  below = c.run-ran.ensures.clock;
  counts = omega (arith, c.args.self.now.counts, c.args.self.now.ready (ready_by c.args.self.now.stage (sym c.is_ready.ensures ∙ c.if-is_ready.true)), c.run-ran.ensures.least, c.from.ensures);
  ready = behind_ready c.run-ran.result.done c.args.budget c.run-ran.result.begun c.run-ran.result.clock c.args.until c.run-ran.new.stage c.run-ran.ensures.is_behind;
  sound = c.run-ran.ensures.sound;
  announces = stops_announces c.args.self.now.cog c.run-ran.new.stage c.run-ran.new.state c.run-ran.result.clock c.run-ran.result.begun c.args.until c.told-next.result _ (told_announced c.args.self.now.cog c.run-ran.new.stage c.run-ran.new.state c.run-ran.result.clock c.run-ran.result.begun c.args.until c.told-next.result c.is_access-self.result c.is_access-self.ensures (c.told-next.ensures.stops c.run-ran.result.begun (behind_early c.run-ran.result.done c.args.budget c.run-ran.result.begun c.run-ran.result.clock c.args.until c.run-ran.new.stage c.run-ran.ensures.is_behind) (behind_late c.run-ran.result.done c.args.budget c.run-ran.result.begun c.run-ran.result.clock c.args.until c.run-ran.new.stage c.run-ran.ensures.is_behind) (behind_ready c.run-ran.result.done c.args.budget c.run-ran.result.begun c.run-ran.result.clock c.args.until c.run-ran.new.stage c.run-ran.ensures.is_behind))) c.requires.until (c.told-next.ensures.stops c.run-ran.result.begun (behind_early c.run-ran.result.done c.args.budget c.run-ran.result.begun c.run-ran.result.clock c.args.until c.run-ran.new.stage c.run-ran.ensures.is_behind) (behind_late c.run-ran.result.done c.args.budget c.run-ran.result.begun c.run-ran.result.clock c.args.until c.run-ran.new.stage c.run-ran.ensures.is_behind) (behind_ready c.run-ran.result.done c.args.budget c.run-ran.result.begun c.run-ran.result.clock c.args.until c.run-ran.new.stage c.run-ran.ensures.is_behind));
}

pub returns-then-is_ready-clause-keeps : goal.returns-then-is_ready-clause-keeps
returns-then-is_ready-clause-keeps c = ran_stands c.args.self.now.counter c.run-ran.result.counter c.args.self.now.code c.bytes-memory.result.now c.args.self.now.done c.run-ran.result.done c.from.result c.args.self.now.cog c.args.self.now.state c.args.self.now.clock c.run-ran.new.stage c.args.self.now.stage c.run-ran.new.state c.run-ran.result.clock c.args.budget c.run-ran.result.begun c.args.until c.bytes-memory.ensures.bytes c.from.ensures (ready_by c.args.self.now.stage (sym c.is_ready.ensures ∙ c.if-is_ready.true)) c.run-ran.ensures.leads c.run-ran.ensures.began c.run-ran.ensures.is_behind

pub returns-then-is_ready-clause-tells : goal.returns-then-is_ready-clause-tells
returns-then-is_ready-clause-tells c = λ b ts stands.
    stops_tells c.run-ran.result.counter c.args.self.now.code (c.args.self.now.done + c.from.result) c.args.self.now.cog c.run-ran.new.stage c.run-ran.new.state c.run-ran.result.clock c.run-ran.result.begun c.args.until c.told-next.result (c.told-next.ensures.stops c.run-ran.result.begun (behind_early c.run-ran.result.done c.args.budget c.run-ran.result.begun c.run-ran.result.clock c.args.until c.run-ran.new.stage c.run-ran.ensures.is_behind) (behind_late c.run-ran.result.done c.args.budget c.run-ran.result.begun c.run-ran.result.clock c.args.until c.run-ran.new.stage c.run-ran.ensures.is_behind) (behind_ready c.run-ran.result.done c.args.budget c.run-ran.result.begun c.run-ran.result.clock c.args.until c.run-ran.new.stage c.run-ran.ensures.is_behind)) b ts
    (ran_stands c.args.self.now.counter c.run-ran.result.counter c.args.self.now.code c.bytes-memory.result.now c.args.self.now.done c.run-ran.result.done c.from.result c.args.self.now.cog c.args.self.now.state c.args.self.now.clock c.run-ran.new.stage c.args.self.now.stage c.run-ran.new.state c.run-ran.result.clock c.args.budget c.run-ran.result.begun c.args.until c.bytes-memory.ensures.bytes c.from.ensures (ready_by c.args.self.now.stage (sym c.is_ready.ensures ∙ c.if-is_ready.true)) c.run-ran.ensures.leads c.run-ran.ensures.began c.run-ran.ensures.is_behind b ts stands)

pub returns-then-is_ready-clause-placed : goal.returns-then-is_ready-clause-placed
returns-then-is_ready-clause-placed c = λ b ts stands live.
    placed c.run-ran.result.counter c.args.self.now.code (c.args.self.now.done + c.from.result) c.args.self.now.cog c.run-ran.new.stage c.run-ran.new.state c.run-ran.result.clock b ts (ran_stands c.args.self.now.counter c.run-ran.result.counter c.args.self.now.code c.bytes-memory.result.now c.args.self.now.done c.run-ran.result.done c.from.result c.args.self.now.cog c.args.self.now.state c.args.self.now.clock c.run-ran.new.stage c.args.self.now.stage c.run-ran.new.state c.run-ran.result.clock c.args.budget c.run-ran.result.begun c.args.until c.bytes-memory.ensures.bytes c.from.ensures (ready_by c.args.self.now.stage (sym c.is_ready.ensures ∙ c.if-is_ready.true)) c.run-ran.ensures.leads c.run-ran.ensures.began c.run-ran.ensures.is_behind b ts stands) live

pub returns-then-is_ready-clause-thorough : goal.returns-then-is_ready-clause-thorough
returns-then-is_ready-clause-thorough c = λ b ts stands.
    stops_thorough c.run-ran.result.counter c.args.self.now.code (c.args.self.now.done + c.from.result) c.args.self.now.cog c.run-ran.new.stage c.run-ran.new.state c.run-ran.result.clock c.run-ran.result.begun c.args.until c.told-next.result (c.told-next.ensures.stops c.run-ran.result.begun (behind_early c.run-ran.result.done c.args.budget c.run-ran.result.begun c.run-ran.result.clock c.args.until c.run-ran.new.stage c.run-ran.ensures.is_behind) (behind_late c.run-ran.result.done c.args.budget c.run-ran.result.begun c.run-ran.result.clock c.args.until c.run-ran.new.stage c.run-ran.ensures.is_behind) (behind_ready c.run-ran.result.done c.args.budget c.run-ran.result.begun c.run-ran.result.clock c.args.until c.run-ran.new.stage c.run-ran.ensures.is_behind)) b ts
    (ran_stands c.args.self.now.counter c.run-ran.result.counter c.args.self.now.code c.bytes-memory.result.now c.args.self.now.done c.run-ran.result.done c.from.result c.args.self.now.cog c.args.self.now.state c.args.self.now.clock c.run-ran.new.stage c.args.self.now.stage c.run-ran.new.state c.run-ran.result.clock c.args.budget c.run-ran.result.begun c.args.until c.bytes-memory.ensures.bytes c.from.ensures (ready_by c.args.self.now.stage (sym c.is_ready.ensures ∙ c.if-is_ready.true)) c.run-ran.ensures.leads c.run-ran.ensures.began c.run-ran.ensures.is_behind b ts stands)

pub returns-then-is_ready-clause-spends : goal.returns-then-is_ready-clause-spends
returns-then-is_ready-clause-spends c =
    ran_spends c.args.self.now.cog c.args.self.now.done c.from.result c.run-ran.result.done c.args.budget c.args.self.now.reached c.args.self.now.clock c.run-ran.result.begun c.run-ran.result.clock c.args.until c.run-ran.new.stage c.run-ran.new.state c.told-next.result c.from.ensures (c.args.self.now.ready (ready_by c.args.self.now.stage (sym c.is_ready.ensures ∙ c.if-is_ready.true))) c.run-ran.ensures.least c.run-ran.ensures.is_behind (c.told-next.ensures.stops c.run-ran.result.begun (behind_early c.run-ran.result.done c.args.budget c.run-ran.result.begun c.run-ran.result.clock c.args.until c.run-ran.new.stage c.run-ran.ensures.is_behind) (behind_late c.run-ran.result.done c.args.budget c.run-ran.result.begun c.run-ran.result.clock c.args.until c.run-ran.new.stage c.run-ran.ensures.is_behind) (behind_ready c.run-ran.result.done c.args.budget c.run-ran.result.begun c.run-ran.result.clock c.args.until c.run-ran.new.stage c.run-ran.ensures.is_behind))

pub returns-then-is_ready-clause-near : goal.returns-then-is_ready-clause-near
returns-then-is_ready-clause-near c = stops_near (standing c.args.self.now.cog c.run-ran.new.stage c.run-ran.new.state c.run-ran.result.clock []) c.run-ran.result.begun c.args.until c.told-next.result (c.told-next.ensures.stops c.run-ran.result.begun (behind_early c.run-ran.result.done c.args.budget c.run-ran.result.begun c.run-ran.result.clock c.args.until c.run-ran.new.stage c.run-ran.ensures.is_behind) (behind_late c.run-ran.result.done c.args.budget c.run-ran.result.begun c.run-ran.result.clock c.args.until c.run-ran.new.stage c.run-ran.ensures.is_behind) (behind_ready c.run-ran.result.done c.args.budget c.run-ran.result.begun c.run-ran.result.clock c.args.until c.run-ran.new.stage c.run-ran.ensures.is_behind))

pub invariant_of-self-else-is_ready : goal.invariant_of-self-else-is_ready
invariant_of-self-else-is_ready c = record {
  cog_below = c.args.self.now.cog_below;
  early = c.args.self.now.early;
  late = c.args.self.now.late;
  below = c.args.self.now.below;
  counts = c.args.self.now.counts;
  ready = c.args.self.now.ready;
  sound = c.args.self.now.sound;
  announces = stops_announces c.args.self.now.cog c.args.self.now.stage c.args.self.now.state c.args.self.now.clock c.args.self.now.reached c.args.until c.told-next-else-is_ready.result _ (told_announced c.args.self.now.cog c.args.self.now.stage c.args.self.now.state c.args.self.now.clock c.args.self.now.reached c.args.until c.told-next-else-is_ready.result c.is_access-self-else-is_ready.result c.is_access-self-else-is_ready.ensures (c.told-next-else-is_ready.ensures.stops c.args.self.now.reached c.args.self.now.early c.args.self.now.late c.args.self.now.ready)) c.requires.until (c.told-next-else-is_ready.ensures.stops c.args.self.now.reached c.args.self.now.early c.args.self.now.late c.args.self.now.ready);
}

pub returns-then-is_ready-clause-announced : goal.returns-then-is_ready-clause-announced
returns-then-is_ready-clause-announced c =
    told_announced c.args.self.now.cog c.run-ran.new.stage c.run-ran.new.state c.run-ran.result.clock c.run-ran.result.begun c.args.until c.told-next.result c.is_access-self.result c.is_access-self.ensures (c.told-next.ensures.stops c.run-ran.result.begun (behind_early c.run-ran.result.done c.args.budget c.run-ran.result.begun c.run-ran.result.clock c.args.until c.run-ran.new.stage c.run-ran.ensures.is_behind) (behind_late c.run-ran.result.done c.args.budget c.run-ran.result.begun c.run-ran.result.clock c.args.until c.run-ran.new.stage c.run-ran.ensures.is_behind) (behind_ready c.run-ran.result.done c.args.budget c.run-ran.result.begun c.run-ran.result.clock c.args.until c.run-ran.new.stage c.run-ran.ensures.is_behind))

pub returns-else-is_ready-clause-announced : goal.returns-else-is_ready-clause-announced
returns-else-is_ready-clause-announced c =
    told_announced c.args.self.now.cog c.args.self.now.stage c.args.self.now.state c.args.self.now.clock c.args.self.now.reached c.args.until c.told-next-else-is_ready.result c.is_access-self-else-is_ready.result c.is_access-self-else-is_ready.ensures (c.told-next-else-is_ready.ensures.stops c.args.self.now.reached c.args.self.now.early c.args.self.now.late c.args.self.now.ready)

pub returns-else-is_ready-clause-tells : goal.returns-else-is_ready-clause-tells
returns-else-is_ready-clause-tells c = λ b ts stands.
    stops_tells c.args.self.now.counter c.args.self.now.code c.args.self.now.done c.args.self.now.cog c.args.self.now.stage c.args.self.now.state c.args.self.now.clock c.args.self.now.reached c.args.until c.told-next-else-is_ready.result (c.told-next-else-is_ready.ensures.stops c.args.self.now.reached c.args.self.now.early c.args.self.now.late c.args.self.now.ready) b ts stands

pub returns-else-is_ready-clause-placed : goal.returns-else-is_ready-clause-placed
returns-else-is_ready-clause-placed c = λ b ts stands live. placed c.args.self.now.counter c.args.self.now.code c.args.self.now.done c.args.self.now.cog c.args.self.now.stage c.args.self.now.state c.args.self.now.clock b ts stands live

pub returns-else-is_ready-clause-thorough : goal.returns-else-is_ready-clause-thorough
returns-else-is_ready-clause-thorough c = λ b ts stands.
    stops_thorough c.args.self.now.counter c.args.self.now.code c.args.self.now.done c.args.self.now.cog c.args.self.now.stage c.args.self.now.state c.args.self.now.clock c.args.self.now.reached c.args.until c.told-next-else-is_ready.result (c.told-next-else-is_ready.ensures.stops c.args.self.now.reached c.args.self.now.early c.args.self.now.late c.args.self.now.ready) b ts stands

pub returns-else-is_ready-clause-again : goal.returns-else-is_ready-clause-again
returns-else-is_ready-clause-again c = λ clock access announced below.
    again clock c.args.until c.args.self.now.reached access (standing c.args.self.now.cog c.args.self.now.stage c.args.self.now.state c.args.self.now.clock []) c.told-next-else-is_ready.result (c.args.self.now.announces clock access announced).0 below (c.told-next-else-is_ready.ensures.stops c.args.self.now.reached c.args.self.now.early c.args.self.now.late c.args.self.now.ready)

pub returns-else-is_ready-clause-spends : goal.returns-else-is_ready-clause-spends
returns-else-is_ready-clause-spends c =
    rest_spends c.args.self.now.cog c.args.self.now.done c.args.budget c.args.self.now.reached c.args.self.now.clock c.args.until c.args.self.now.stage c.args.self.now.state c.told-next-else-is_ready.result (not_ready c.args.self.now.stage (sym c.is_ready.ensures ∙ c.if-is_ready.false)) (c.told-next-else-is_ready.ensures.stops c.args.self.now.reached c.args.self.now.early c.args.self.now.late c.args.self.now.ready)

pub returns-else-is_ready-clause-near : goal.returns-else-is_ready-clause-near
returns-else-is_ready-clause-near c = stops_near (standing c.args.self.now.cog c.args.self.now.stage c.args.self.now.state c.args.self.now.clock []) c.args.self.now.reached c.args.until c.told-next-else-is_ready.result (c.told-next-else-is_ready.ensures.stops c.args.self.now.reached c.args.self.now.early c.args.self.now.late c.args.self.now.ready)

pub returns-then-is_ready-clause-far : goal.returns-then-is_ready-clause-far
returns-then-is_ready-clause-far c = λ b ts stands live.
    subst (λ (r : ℕ). IsWithin (r + 544 * c.args.budget + 16) c.args.until c.told-next.result) (sym (c.args.self.now.ready (ready_by c.args.self.now.stage (sym c.is_ready.ensures ∙ c.if-is_ready.true))))
    (ran_far c.args.self.now.cog c.args.self.now.clock c.run-ran.result.done c.args.budget c.run-ran.result.begun c.run-ran.result.clock c.args.until c.run-ran.new.stage c.run-ran.new.state c.told-next.result c.run-ran.ensures.budget c.run-ran.ensures.most c.run-ran.ensures.is_behind (c.told-next.ensures.stops c.run-ran.result.begun (behind_early c.run-ran.result.done c.args.budget c.run-ran.result.begun c.run-ran.result.clock c.args.until c.run-ran.new.stage c.run-ran.ensures.is_behind) (behind_late c.run-ran.result.done c.args.budget c.run-ran.result.begun c.run-ran.result.clock c.args.until c.run-ran.new.stage c.run-ran.ensures.is_behind) (behind_ready c.run-ran.result.done c.args.budget c.run-ran.result.begun c.run-ran.result.clock c.args.until c.run-ran.new.stage c.run-ran.ensures.is_behind)) c.told-next.ensures.near)

pub returns-else-is_ready-clause-far : goal.returns-else-is_ready-clause-far
returns-else-is_ready-clause-far c = λ b ts stands live.
    rest_far c.args.self.now.cog c.args.budget c.args.self.now.reached c.args.self.now.clock c.args.until c.args.self.now.stage c.args.self.now.state c.told-next-else-is_ready.result c.requires.budget
    (λ over. let e : false ≡ true = sym live ∙ over_ended c.args.self.now.counter c.args.self.now.code c.args.self.now.done c.args.self.now.cog c.args.self.now.stage c.args.self.now.state c.args.self.now.clock over b ts stands in cc)
    c.args.self.now.late (c.told-next-else-is_ready.ensures.stops c.args.self.now.reached c.args.self.now.early c.args.self.now.late c.args.self.now.ready) c.told-next-else-is_ready.ensures.near

pub run-ran-requires-clause-ready : goal.run-ran-requires-clause-ready
run-ran-requires-clause-ready c = ready_by c.args.self.now.stage (sym c.is_ready.ensures ∙ c.if-is_ready.true)
