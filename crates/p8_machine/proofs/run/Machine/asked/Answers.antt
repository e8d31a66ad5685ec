use Rattle.std.proofs.Common.{◌≡◌, ◌∙◌, sym, subst, true, ℕ, List, arith}
use Rattle.p8_access.specs.declared.order.Turn.{Turn}
use Rattle.p8_access.specs.Worlds.{World}
use Rattle.p8_access.specs.Hub.{cog_state}
use Rattle.p8_cog.specs.declared.cog_life.CogLife.{CogLife}
use Rattle.p8_ledger.proofs.Rows.{some-at}
use Rattle.p8_machine.specs.Asked.{IsNextAsked}
use Rattle.p8_machine.specs.Counted.{HasCounter}
use Rattle.p8_machine.specs.Machines.{world_in}
use Rattle.p8_machine.specs.Places.{Counts}
use Rattle.p8_machine.proofs.Counting.{next-asked, next-counter}
use Rattle.p8_machine.proofs.run.Machine.asked.Goals as goal

pub returns-in-Running : goal.returns-in-Running
returns-in-Running c = λ stands.
    let w : World = world_in c.args.self.now in
    let cog : ℕ = c.args.cog in
    let lives : List CogLife = c.args.self.now.seats.lives.items in
    let life = some-at lives cog (omega (arith, c.requires, c.args.self.now.seats.eight)) in
    let said = c.said-next.ensures w stands.0 stands.1.found in
    let asked =
    next-asked w stands.0 c.args.self.now.ledger lives stands.1 cog life.0 life.1 c.in-Running.origin
    (sym (c.state.ensures w stands.0 stands.1.found) ∙ c.in-Running.is) c.said-next.result said in
    let counts : c.is_access.result ≡ true → Counts w.memory life.0 c.counter.result =
    λ told. subst (λ (memory : List ℕ). Counts memory life.0 c.counter.result) (c.memory-memory.ensures w stands.0 stands.1.found) (c.counter.ensures.counts life.0 told life.1) in
    let counter =
    next-counter w stands.0 c.args.self.now.ledger lives stands.1 c.args.self.now.announced cog c.requires life.0 life.1 c.said-next.result said
    c.is_access.result c.is_access.ensures c.counter.result counts c.counter.ensures.none asked in
    subst (λ (past : List Turn). IsNextAsked w past cog (cog_state w past cog) c.said-next.result × HasCounter w past cog (cog_state w past cog) c.said-next.result c.counter.result)
    (sym stands.1.found.log) (asked, counter)
