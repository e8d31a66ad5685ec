use Rattle.std.proofs.Common.{◌≡◌, ◌∙◌, ap, sym, subst, refl, ℕ, List, ◌∷◌, reverse, inl, inr}
use Rattle.p8_access.specs.declared.order.Turn.{Turn}
use Rattle.p8_access.specs.Worlds.{World}
use Rattle.p8_access.specs.Hub.{cog_state}
use Rattle.p8_access.specs.Histories.{Extends, IsOver}
use Rattle.p8_cog.specs.Lives.{asks}
use Rattle.p8_ledger.specs.declared.ledger.Ledger.{Ledger}
use Rattle.p8_ledger.specs.declared.ledger.First.{First}
use Rattle.p8_ledger.specs.Advances.{Advances}
use Rattle.p8_ledger.specs.Ledgers.{DecidesFirst}
use Rattle.p8_ledger.specs.Records.{turns}
use Rattle.p8_ledger.specs.Worlds.{world_of}
use Rattle.p8_ledger.proofs.Telling.{none-over}
use Rattle.p8_machine.specs.Counted.{IsCounterIn}
use Rattle.p8_machine.specs.Places.{Counts}
use Rattle.p8_machine.specs.Machines.{world_in, past_in, IsStanding}
use Rattle.p8_machine.specs.Standing.{Stands, Comes}
use Rattle.p8_machine.proofs.Announced.{kept-announced, no-promise, made-past}
use Rattle.p8_machine.proofs.Counting.{turn-counter}
use Rattle.p8_machine.proofs.run.Machine.step_counted.Goals as goal

pub invariant_of-self : goal.invariant_of-self
invariant_of-self c = record {
  announced = kept-announced c.args.self.now.ledger c.take_first.new.self c.take_first.result c.args.self.now.seats.lives.items c.take_first.ensures.advances c.args.self.now.announced;
}

pub settle-requires : goal.settle-requires
settle-requires c = (c.args.self.now.ledger, c.in-Done.turn, c.in-Done.ensures.advances, c.args.self.now.announced, refl)

pub returns-in-Done-clause-past : goal.returns-in-Done-clause-past
returns-in-Done-clause-past c = (c.in-Done.turn, c.settle.ensures.past ∙ made-past c.args.self.now.ledger c.take_first.new.self c.in-Done.turn c.in-Done.running c.in-Done.ensures.advances)

pub returns-in-Done-clause-counted : goal.returns-in-Done-clause-counted
returns-in-Done-clause-counted c = λ stands.
    let w : World = world_in c.args.self.now in
    let decides = c.in-Done.ensures.decides w stands.0 refl stands.1.found in
    let log : past_in c.settle.new.self ≡ c.in-Done.turn ∷ past_in c.args.self.now = c.settle.ensures.past ∙ made-past c.args.self.now.ledger c.take_first.new.self c.in-Done.turn c.in-Done.running c.in-Done.ensures.advances in
    let counter = turn-counter w stands.0 c.args.self.now.ledger c.take_first.new.self c.args.self.now.seats.lives.items stands.1 c.args.self.now.announced c.args.self.now.seats.eight c.in-Done.turn c.in-Done.running c.in-Done.ensures.advances decides.2 c.counter-counter.result
    (λ life runs at. subst (λ (memory : List ℕ). Counts memory life c.counter-counter.result) (c.memory-memory.ensures w _ (c.in-Done.ensures.found w stands.0 refl stands.1.found)) (c.counter-counter.ensures.counts life runs at)) c.counter-counter.ensures.none in
    (c.in-Done.turn, log, subst (λ (l : List Turn). Extends asks w l c.in-Done.turn) (sym stands.1.found.log) decides.0, subst (λ (l : List Turn). IsCounterIn w l c.in-Done.turn.key.cog (cog_state w l c.in-Done.turn.key.cog) c.counter-counter.result) (sym stands.1.found.log) counter)

pub returns-in-Done-clause-stands : goal.returns-in-Done-clause-stands
returns-in-Done-clause-stands c = λ stands.
    let w : World = world_in c.args.self.now in
    let decides = c.in-Done.ensures.decides w stands.0 refl stands.1.found in
    let made = c.in-Done.ensures.advances in
    let comes : Comes w stands.0 c.take_first.new.self c.args.self.now.seats.lives.items c.in-Done.turn c.in-Done.running = record {
      found = c.in-Done.ensures.found w stands.0 refl stands.1.found;
      seated = stands.1.seated;
      extends = decides.0;
      fits = decides.2;
      origins = stands.1.found.origins;
    } in
    let world : world_of c.take_first.new.self.boot c.args.self.now.script c.take_first.new.self.limits ≡ w = λ i. world_of (made.boot i) c.args.self.now.script (made.limits i) in
    c.settle.ensures.stands c.in-Done.turn stands.0 (subst (λ (v : World). Comes v stands.0 c.take_first.new.self c.args.self.now.seats.lives.items c.in-Done.turn c.in-Done.running) (sym world) comes)

-- where no turn is made the ledger stays as it was, and the history is over
same : (c : goal.In-Ahead) → c.take_first.new.self ≡ c.args.self.now.ledger
same c = elim c.in-Ahead.is [
  | inl ahead ↦ (subst (λ (first : First). Advances c.args.self.now.ledger c.take_first.new.self first) ahead.2 c.take_first.ensures.advances).1
  | inr over ↦ subst (λ (first : First). Advances c.args.self.now.ledger c.take_first.new.self first) over c.take_first.ensures.advances
]

same-past : (c : goal.In-Ahead) → reverse c.take_first.new.self.turns.list ≡ past_in c.args.self.now
same-past c = ap (λ (ledger : Ledger). reverse ledger.turns.list) (same c)

over : (c : goal.In-Ahead) → IsStanding c.args.self.now → IsOver asks (world_in c.args.self.now) (past_in c.args.self.now)
over c stands =
    let w : World = world_in c.args.self.now in
    let decides : DecidesFirst w stands.0 c.take_first.result = c.take_first.ensures.decides w stands.0 refl stands.1.found in
    elim c.in-Ahead.is [
      | inl ahead ↦
          (let promised = subst (λ (first : First). DecidesFirst w stands.0 first) ahead.2 decides in
          let near = (subst (λ (first : First). Advances c.args.self.now.ledger c.take_first.new.self first) ahead.2 c.take_first.ensures.advances).0 in
          absurd (no-promise w stands.0 c.args.self.now.ledger c.args.self.now.seats.lives.items stands.1 c.args.self.now.seats.eight ahead.0 ahead.1 promised.2.0 near promised.2.1 promised.3))
      | inr none ↦
          (let ends = subst (λ (first : First). DecidesFirst w stands.0 first) none decides in
          let is_over : IsOver asks w (turns stands.0) = elim ends [ inl full ↦ inl full | inr silent ↦ none-over w stands.0 stands.1.found.truth silent ] in
          subst (λ (past : List Turn). IsOver asks w past) (sym stands.1.found.log) is_over)
    ]

pub returns-in-Ahead : goal.returns-in-Ahead
returns-in-Ahead c = record {
  counted = λ stands. same-past c;
  over = λ stands. (λ none. over c stands, λ is. refl);
  room = tt;
  past = same-past c;
  world = ap (λ (ledger : Ledger). world_of ledger.boot c.args.self.now.script ledger.limits) (same c);
  stands = λ stands.
      (stands.0, subst (λ (ledger : Ledger). Stands (world_of ledger.boot c.args.self.now.script ledger.limits) stands.0 ledger c.args.self.now.seats.lives.items) (sym (same c)) stands.1);
}
