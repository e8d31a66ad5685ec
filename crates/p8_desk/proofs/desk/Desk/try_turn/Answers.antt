use Rattle.std.proofs.Common.{◌∙◌, ◌≡◌, ℕ, length, sym, ap, subst}
use Rattle.p8_access.specs.Worlds.{World}
use Rattle.p8_ledger.specs.Records.{turns}
use Rattle.p8_desk.specs.Passes.{PassValue, PassSteps}
use Rattle.p8_desk.specs.Rules.{Hand, world_in}
use Rattle.p8_desk.specs.Seats.{Idle, Keeps, Seated, pass_in, steps_of}
use Rattle.p8_desk.specs.Tries.{Tried}
use Rattle.p8_desk.proofs.Carrying.{named-tried}
use Rattle.p8_desk.proofs.Trying.{tried-at}
use Rattle.p8_desk.proofs.desk.Desk.try_turn.Goals as goal

pub ride-answer-requires-clause-own : goal.ride-answer-requires-clause-own
ride-answer-requires-clause-own c = (ap (λ (p : PassValue). p.table) c.pass.view_is ∙ c.requires.table, c.pass.invariant.0.near)

pub ride-answer-requires-clause-idle : goal.ride-answer-requires-clause-idle
ride-answer-requires-clause-idle c = subst (λ (w : World). Idle w c.pass.inside.seat.me) (ap (λ (p : PassValue). p.world) c.pass.view_is ∙ c.requires.world) c.pass.invariant.0.idle

pub ride-answer-requires-clause-pass : goal.ride-answer-requires-clause-pass
ride-answer-requires-clause-pass c =
    let here = ap (λ (p : PassValue). p.world) c.pass.view_is ∙ c.requires.world in
    let p = pass_in c.pass.inside.seat.me c.pass.inside.rider.cog in
    (p, c.pass.invariant.0.has, subst (λ (w : World). Keeps w p c.pass.inside.rider) here c.pass.invariant.0.keeps)

pub tell-requires-clause-near : goal.tell-requires-clause-near
tell-requires-clause-near c = λ other bound is.
    let here = ap (λ (p : PassValue). p.world) c.pass.view_is ∙ c.requires.world in
    let x = tried-at c.pass.inside.seat.me c.ride-answer.new.seat.me c.pass.inside.rider c.ride-answer.new.self c.pass.invariant.0 c.ride-answer.ensures.own.1 c.args.self.now.world here c.ride-answer.result c.pass.inside.count c.ride-answer.new.count c.pass.invariant.1 c.ride-answer.ensures.rode in
    named-tried _ _ _ _ c.ride-answer.result other bound is x.3

pub invariant_of-pass : goal.invariant_of-pass
invariant_of-pass c =
    let here = ap (λ (p : PassValue). p.world) c.pass.view_is ∙ c.requires.world in
    let x = tried-at c.pass.inside.seat.me c.ride-answer.new.seat.me c.pass.inside.rider c.ride-answer.new.self c.pass.invariant.0 c.ride-answer.ensures.own.1 c.args.self.now.world here c.ride-answer.result c.pass.inside.count c.ride-answer.new.count c.pass.invariant.1 c.ride-answer.ensures.rode in
    subst (λ (m : Hand). Seated m c.ride-answer.new.self × (c.ride-answer.new.count ≡ length (turns (pass_in m c.ride-answer.new.self.cog).seen))) (sym c.tell.ensures.same) (x.1, x.2)

pub returns-clause-owns : goal.returns-clause-owns
returns-clause-owns c =
    let here = ap (λ (p : PassValue). p.world) c.pass.view_is ∙ c.requires.world in
    let x = tried-at c.pass.inside.seat.me c.ride-answer.new.seat.me c.pass.inside.rider c.ride-answer.new.self c.pass.invariant.0 c.ride-answer.ensures.own.1 c.args.self.now.world here c.ride-answer.result c.pass.inside.count c.ride-answer.new.count c.pass.invariant.1 c.ride-answer.ensures.rode in
    record { world = ap (λ (m : Hand). world_in m.0.start) c.tell.ensures.same ∙ ap world_in x.0 ∙ here; table = c.tell.ensures.own.0 ∙ c.ride-answer.ensures.own.0 ∙ ap (λ (p : PassValue). p.table) c.pass.view_is ∙ c.requires.table }

pub returns-clause-tried : goal.returns-clause-tried
returns-clause-tried c =
    let here = ap (λ (p : PassValue). p.world) c.pass.view_is ∙ c.requires.world in
    let x = tried-at c.pass.inside.seat.me c.ride-answer.new.seat.me c.pass.inside.rider c.ride-answer.new.self c.pass.invariant.0 c.ride-answer.ensures.own.1 c.args.self.now.world here c.ride-answer.result c.pass.inside.count c.ride-answer.new.count c.pass.invariant.1 c.ride-answer.ensures.rode in
    let before = ap (λ (v : PassValue). v.steps) c.pass.view_is in
    let after = ap (λ (n : ℕ). steps_of (pass_in c.ride-answer.new.seat.me n)) (sym c.ride-answer.ensures.own.1) ∙ ap (λ (m : Hand). steps_of (pass_in m c.ride-answer.new.self.cog)) (sym c.tell.ensures.same) in
    subst (λ (y : ℕ × (PassSteps × PassSteps)). Tried c.args.self.now.world y.0 y.1.0 y.1.1 c.ride-answer.result) (λ i. (ap (λ (v : PassValue). v.cog) c.pass.view_is i, (before i, after i))) x.3
