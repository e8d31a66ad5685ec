use Rattle.std.proofs.Common.{IfSome, ◌^◌, ◌∙◌, ap, sym, subst, refl, ℕ, ◌<◌, List, ◌∷◌, length, reverse}
use Rattle.std.proofs.lemmas.List.{length-set}
use Rattle.p8_access.specs.declared.lives.Next.TheVariants.{More}
use Rattle.p8_access.specs.declared.order.Turn.{Turn}
use Rattle.p8_access.specs.Lives.{announced_by}
use Rattle.p8_region.specs.Bounded.{Bounded}
use Rattle.p8_ledger.specs.Waiting.{newest_key}
use Rattle.p8_ledger.specs.declared.steps.Step.TheVariants.{Took}
use Rattle.p8_ledger.specs.Records.{turns}
use Rattle.p8_ledger.proofs.Coming.{next-announced}
use Rattle.p8_ledger.proofs.Stepping.{reverse-push, cogs-after}
use Rattle.p8_ledger.proofs.Telling.{take-truth}
use Rattle.p8_ledger.specs.Turns.{AreProper}
use Rattle.p8_ledger.proofs.Properly.{one-more, has-number}
use Rattle.p8_ledger.proofs.Granting.{sayings-after, made-after, alone-moved}
use Rattle.p8_ledger.proofs.ledger.Ledger.make_alone.Goals as goal

pub invariant_of-self : goal.invariant_of-self
invariant_of-self c = record {
  clocks = c.args.self.now.clocks;
  room = ap (λ (t : Bounded Turn). t.room) c.add.ensures ∙ c.args.self.now.room;
  small = subst (λ (l : List Turn). IfSome (newest_key l) (λ key. key.clock < 2 ^ 61)) (sym (ap (λ (t : Bounded Turn). reverse t.list) c.add.ensures ∙ reverse-push c.args.self.now.turns.list (record { key = c.args.key; access = c.args.access; answer = c.answer-answer.result }))) c.requires.clock;
  eight = length-set c.args.self.now.sayings c.args.key.cog (More _) ∙ c.args.self.now.eight;
  made = made-after c.args.self.now.sayings c.args.key.cog (More _) c.args.self.now.made tt;
  proper = subst AreProper (sym (ap (λ (t : Bounded Turn). t.list) c.add.ensures)) (one-more c.args.self.now.turns.list (record { key = c.args.key; access = c.args.access; answer = c.answer-answer.result }) c.args.self.now.proper (c.requires.cog, c.requires.suits.proper, has-number c.args.access c.answer-answer.result c.requires.suits.proper c.answer-answer.ensures.fits));
}

pub returns-clause-made : goal.returns-clause-made
returns-clause-made c = record {
  cog = c.requires.cog;
  clock = c.requires.clock;
  fits = c.answer-answer.ensures.fits;
  made = c.requires.suits.made;
  announced = λ saying running at. next-announced (announced_by saying) c.args.key.clock c.args.key.cog c.args.access c.answer-answer.result (c.requires.suits.next saying running at);
  room = subst (λ (m : ℕ). length c.args.self.now.turns.list < m) c.args.self.now.room c.requires.room;
  log = ap (λ (t : Bounded Turn). t.list) c.add.ensures;
  sayings = refl;
  boot = refl;
  limits = refl;
}

pub returns-clause-found : goal.returns-clause-found
returns-clause-found c = λ w r found extends fits.
    let turn : Turn = record { key = c.args.key; access = c.args.access; answer = c.answer-answer.result } in
    let hub = c.answer-answer.ensures.stands w (turns r) found.hub in
    let cogs = cogs-after w (turns r) turn found.origins found.others c.requires.cog c.requires.suits.proper c.answer-answer.ensures.fits in
    let sayings = sayings-after c.args.self.now.sayings (Took turn) r c.requires.cog found.sayings in
    record {
      world = found.world;
      log = ap (λ (t : Bounded Turn). reverse t.list) c.add.ensures ∙ reverse-push c.args.self.now.turns.list turn ∙ ap (λ (l : List Turn). turn ∷ l) found.log;
      hub = hub;
      sayings = sayings;
      truth = take-truth w r turn found.truth extends (λ origin state. c.requires.suits.made refl);
      legal = (found.legal, extends);
      origins = cogs.0;
      others = cogs.1;
      fronts = alone-moved c.args.self.now.fronts c.put.new.self w r turn c.requires.leaves fits c.put.ensures.own c.put.ensures.others found.fronts;
    }
