use Rattle.std.proofs.Common.{◌≡◌, ◌∙◌, ap, sym, subst, []}
use Rattle.std.proofs.lemmas.List.{length-set}
use Rattle.p8_cog.specs.declared.cog_life.CogLife.{CogLife}
use Rattle.p8_cog.specs.Lives.{asks, begun_by}
use Rattle.p8_ledger.proofs.Rows.{set-there, set-else}
use Rattle.p8_machine.specs.Places.{Begins}
use Rattle.p8_cog.specs.WholeLives.{announced_in}
use Rattle.p8_machine.proofs.Rows.{own-set}
use Rattle.p8_machine.proofs.seats.Seats.begin.Goals as goal

pub invariant_of-self : goal.invariant_of-self
invariant_of-self c = record {
  eight = length-set c.args.self.now.lives.items c.args.key.cog c.next_of.new.life ∙ c.args.self.now.eight;
  own = own-set c.args.self.now.lives.items c.args.key.cog c.next_of.new.life c.args.self.now.own (c.next_of.ensures.cog ∙ c.restart.ensures.cog);
}

pub returns-clause-begins : goal.returns-clause-begins
returns-clause-begins c = λ life startable window at.
    let new : life ≡ c.next_of.new.life = set-there c.args.self.now.lives.items c.args.key.cog c.next_of.new.life life at in
    subst (λ (l : CogLife). Begins asks l (begun_by c.args.memory.now c.args.origin c.args.key.cog c.args.key.clock) c.args.until c.next_of.result) (sym new) (record {
      stands = c.next_of.ensures.keeps (begun_by c.args.memory.now c.args.origin c.args.key.cog c.args.key.clock) [] c.restart.ensures.stands;
      tells = c.next_of.ensures.tells (begun_by c.args.memory.now c.args.origin c.args.key.cog c.args.key.clock) [] c.restart.ensures.stands;
      spoken = c.next_of.ensures.spoken;
    })

pub returns-clause-others : goal.returns-clause-others
returns-clause-others c = λ n life differ at. set-else c.args.self.now.lives.items c.args.key.cog n c.next_of.new.life life differ at

pub returns-clause-announced : goal.returns-clause-announced
returns-clause-announced c = λ life at asked is.
    ap announced_in (set-there c.args.self.now.lives.items c.args.key.cog c.next_of.new.life life at) ∙ c.next_of.ensures.announced ∙ is
