use Rattle.std.proofs.Common.{◌≡◌, ◌∙◌, ap, sym, subst, refl, ◌++◌, ◌∷◌, [], length, arith}
use Rattle.std.proofs.lemmas.List.{length-set}
use Rattle.std.proofs.lemmas.Option.{slice_get_read}
use Rattle.p8_cog.specs.declared.cog_life.CogLife.{CogLife}
use Rattle.p8_cog.specs.Lives.{asks}
use Rattle.p8_ledger.proofs.Rows.{set-there, set-else, same-there}
use Rattle.p8_machine.specs.Places.{Takes}
use Rattle.p8_cog.specs.WholeLives.{announced_in}
use Rattle.p8_machine.proofs.Rows.{own-set}
use Rattle.p8_machine.proofs.seats.Seats.take.Goals as goal

pub invariant_of-self : goal.invariant_of-self
invariant_of-self c = record {
  eight = length-set c.args.self.now.lives.items c.args.turn.now.key.cog c.next_of.new.life ∙ c.args.self.now.eight;
  own = own-set c.args.self.now.lives.items c.args.turn.now.key.cog c.next_of.new.life c.args.self.now.own (c.next_of.ensures.cog ∙ c.take_answer.ensures.cog ∙ c.args.self.now.own c.args.turn.now.key.cog c.index_mut-life.result.now (slice_get_read c.args.self.now.lives.items (length c.args.self.now.lives.items) c.args.turn.now.key.cog c.index_mut-life.result.now refl (omega (arith, c.args.self.now.eight, c.requires.cog)) c.index_mut-life.ensures.value));
}

pub returns-clause-takes : goal.returns-clause-takes
returns-clause-takes c = λ before after was is.
    let old : before ≡ c.index_mut-life.result.now = same-there c.args.self.now.lives.items c.args.turn.now.key.cog c.index_mut-life.result.now before (omega (arith, c.args.self.now.eight, c.requires.cog)) c.index_mut-life.ensures.value was in
    let new : after ≡ c.next_of.new.life = set-there c.args.self.now.lives.items c.args.turn.now.key.cog c.next_of.new.life after is in
    subst (λ (l : CogLife). Takes asks l after c.args.turn.now c.args.until c.next_of.result) (sym old)
    (subst (λ (l : CogLife). Takes asks c.index_mut-life.result.now l c.args.turn.now c.args.until c.next_of.result) (sym new) (record {
      keeps = λ b ts stood. c.next_of.ensures.keeps b (ts ++ c.args.turn.now ∷ []) (c.take_answer.ensures.stands b ts stood);
      tells = λ b ts stood. c.next_of.ensures.tells b (ts ++ c.args.turn.now ∷ []) (c.take_answer.ensures.stands b ts stood);
      spoken = c.next_of.ensures.spoken;
    }))

pub returns-clause-others : goal.returns-clause-others
returns-clause-others c = λ n life differ at. set-else c.args.self.now.lives.items c.args.turn.now.key.cog n c.next_of.new.life life differ at

pub returns-clause-announced : goal.returns-clause-announced
returns-clause-announced c = λ life at asked is.
    ap announced_in (set-there c.args.self.now.lives.items c.args.turn.now.key.cog c.next_of.new.life life at) ∙ c.next_of.ensures.announced ∙ is
