use Rattle.std.proofs.Common.{◌≡◌, ◌∙◌, ap, sym, subst, ℕ, true, false, List, ◌∷◌, arith}
use Rattle.p8_access.specs.declared.kinds.Origin.{Origin}
use Rattle.p8_access.specs.declared.order.Turn.{Turn}
use Rattle.p8_access.specs.declared.states.CogState.TheVariants.{Running}
use Rattle.p8_access.specs.Lives.{Begun}
use Rattle.p8_access.specs.Windows.{IsWindow}
use Rattle.p8_access.specs.Histories.{begun_at}
use Rattle.p8_access.specs.Hub.{cog_state}
use Rattle.p8_access.specs.Worlds.{World}
use Rattle.p8_cog.specs.Lives.{asks, begun_by, IsStartable}
use Rattle.p8_ledger.specs.declared.steps.Step.TheVariants.{Took, Said}
use Rattle.p8_ledger.specs.Advances.{HasSaid}
use Rattle.p8_ledger.specs.Ledgers.{Found}
use Rattle.p8_ledger.specs.Records.{turns, IsTrueOf}
use Rattle.p8_ledger.specs.Worlds.{world_of}
use Rattle.p8_ledger.proofs.Rows.{some-at}
use Rattle.p8_ledger.proofs.Settling.{begun-same}
use Rattle.p8_machine.specs.Machines.{world_in}
use Rattle.p8_machine.specs.Places.{Begins, Takes}
use Rattle.p8_machine.specs.Standing.{Stands}
use Rattle.p8_machine.proofs.Announced.{said-announced, is-announced, newest-made, newest-cog, newest-comes}
use Rattle.p8_machine.proofs.Settled.{idle-stands, own-true, said-stands}
use Rattle.p8_machine.proofs.run.Machine.settle.Goals as goal

pub invariant_of-self : goal.invariant_of-self
invariant_of-self c =
    let cog_is = newest-cog c.requires.0 c.args.self.now.ledger c.requires.1 c.newest-turn.result.now c.args.running c.newest-turn.ensures.0 c.args.cog c.requires.2 c.newest-turn.ensures.1 c.requires.4 in
    record {
      announced = said-announced c.args.self.now.ledger c.say.new.self c.newest-turn.result.now.key.cog c.settle-next.result c.args.self.now.seats.lives.items c.settle-next.new.self.lives.items (subst (λ (n : ℕ). HasSaid c.args.self.now.ledger c.say.new.self n c.settle-next.result) cog_is c.say.ensures.said) c.settle-next.ensures.others c.settle-next.ensures.announced c.args.self.now.announced;
    }

pub returns-in-Running-clause-stands : goal.returns-in-Running-clause-stands
returns-in-Running-clause-stands c = λ given r given_comes.
    let w : World = world_in c.args.self.now in
    let turn : Turn = c.newest-turn.result.now in
    let made = newest-made c.requires.0 c.args.self.now.ledger c.requires.1 turn c.args.running c.newest-turn.ensures.0 c.requires.2 c.newest-turn.ensures.1 in
    let cog_is : c.args.cog ≡ turn.key.cog = newest-cog c.requires.0 c.args.self.now.ledger c.requires.1 turn c.args.running c.newest-turn.ensures.0 c.args.cog c.requires.2 c.newest-turn.ensures.1 c.requires.4 in
    let comes = newest-comes w r c.args.self.now.ledger c.args.self.now.seats.lives.items given turn c.args.running c.newest-turn.ensures.0 c.newest-turn.ensures.1 given_comes in
    let runs : cog_state w (turn ∷ turns r) c.args.cog ≡ Running c.in-Running.origin = sym (c.state.ensures w (Took turn ∷ r) comes.found) ∙ c.in-Running.is in
    let state = subst (λ (n : ℕ). cog_state w (turn ∷ turns r) n ≡ Running c.in-Running.origin) cog_is runs in
    let life = some-at c.settle-next.new.self.lives.items turn.key.cog (omega (arith, c.settle-next.new.self.eight, made.cog)) in
    let before = some-at c.args.self.now.seats.lives.items turn.key.cog (omega (arith, c.args.self.now.seats.eight, made.cog)) in
    let takes : c.args.running ≡ true → Takes asks before.0 life.0 turn w.clocks c.settle-next.result = λ running. subst (λ (u : ℕ). Takes asks before.0 life.0 turn u c.settle-next.result) c.limit-until.ensures.limit (c.settle-next.ensures.takes before.0 life.0 running before.1 life.1) in
    let begun = ap (λ (m : List ℕ). begun_by m c.in-Running.origin turn.key.cog turn.key.clock) (c.memory.ensures w (Took turn ∷ r) comes.found) ∙ begun-same w turn.key.cog turn.key.clock c.in-Running.origin in
    let begins : c.args.running ≡ false → IsStartable c.in-Running.origin → IsWindow turn.key.cog turn.key.clock → Begins asks life.0 (begun_at w turn.key.cog turn.key.clock c.in-Running.origin) w.clocks c.settle-next.result = λ starting startable window. subst (λ (u : ℕ). Begins asks life.0 (begun_at w turn.key.cog turn.key.clock c.in-Running.origin) u c.settle-next.result) c.limit-until.ensures.limit (subst (λ (b : Begun). Begins asks life.0 b c.limit-until.result c.settle-next.result) begun (c.settle-next.ensures.begins life.0 starting startable window life.1)) in
    let own = own-true w r c.args.self.now.ledger c.args.self.now.seats.lives.items turn c.args.running comes made.cog c.in-Running.origin state c.settle-next.new.self.lives.items c.settle-next.result c.settle-next.ensures.others life.0 life.1 before.0 before.1 made.made takes begins in
    let spoken = c.say.ensures.found w (Took turn ∷ r) comes.found (subst (λ (n : ℕ). IsTrueOf w (turn ∷ turns r) n c.settle-next.result) (sym cog_is) own) (c.in-Running.origin, runs) in
    let found = subst (λ (n : ℕ). Found w c.say.new.self (Said n c.settle-next.result ∷ Took turn ∷ r)) cog_is spoken in
    let stands = said-stands w r c.args.self.now.ledger c.args.self.now.seats.lives.items turn c.args.running comes made.cog c.in-Running.origin state c.settle-next.new.self.lives.items c.settle-next.result c.settle-next.ensures.others life.0 life.1 before.0 before.1 made.made takes begins c.say.new.self found in
    let world : world_of c.say.new.self.boot c.args.self.now.script c.say.new.self.limits ≡ w = λ i. world_of (c.say.ensures.said.boot i) c.args.self.now.script (c.say.ensures.said.limits i) in
    (Said turn.key.cog c.settle-next.result ∷ Took turn ∷ r, subst (λ (v : World). Stands v (Said turn.key.cog c.settle-next.result ∷ Took turn ∷ r) c.say.new.self c.settle-next.new.self.lives.items) (sym world) stands)

pub returns-in_default-clause-stands : goal.returns-in_default-clause-stands
returns-in_default-clause-stands c = λ given r given_comes.
    let w : World = world_in c.args.self.now in
    let turn : Turn = c.requires.1 in
    let comes = newest-comes w r c.args.self.now.ledger c.args.self.now.seats.lives.items given turn c.args.running c.requires.0.turns.list c.requires.2.log given_comes in
    let idle : (origin : Origin) → cog_state w (turn ∷ turns r) turn.key.cog ≡ Running origin → ⊥ = λ origin is.
    c.in_default.not-Running origin (c.state.ensures w (Took turn ∷ r) comes.found ∙ subst (λ (n : ℕ). cog_state w (turn ∷ turns r) n ≡ Running origin) (sym c.requires.4) is) in
    (Took turn ∷ r, idle-stands w r c.args.self.now.ledger c.args.self.now.seats.lives.items turn c.args.running comes c.requires.2.cog idle)

pub settle-next-requires-clause-next : goal.settle-next-requires-clause-next
settle-next-requires-clause-next c =
    let made = newest-made c.requires.0 c.args.self.now.ledger c.requires.1 c.newest-turn.result.now c.args.running c.newest-turn.ensures.0 c.requires.2 c.newest-turn.ensures.1 in
    is-announced c.requires.0 c.args.self.now.ledger c.newest-turn.result.now c.args.running c.args.self.now.seats.lives.items made c.requires.3
