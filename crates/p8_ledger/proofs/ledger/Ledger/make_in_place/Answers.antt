use Rattle.std.proofs.Common.{IfSome, ◌^◌, ◌≡◌, ◌∙◌, ap, sym, subst, refl, ℕ, ◌<◌, ◌+◌, List, ◌∷◌, Some, length, reverse, get_or, slice_get}
use Rattle.std.proofs.Math.ListN.{set}
use Rattle.std.proofs.lemmas.List.{length-set}
use Rattle.p8_access.specs.declared.kinds.Access.TheVariants.{Begin}
use Rattle.p8_access.specs.declared.lives.Next.{Next}
use Rattle.p8_access.specs.declared.lives.Next.TheVariants.{At, More}
use Rattle.p8_access.specs.declared.order.Turn.{Turn}
use Rattle.p8_access.specs.Lives.{announced_by}
use Rattle.p8_access.specs.Worlds.{World}
use Rattle.p8_access.specs.Hub.{cog_state}
use Rattle.p8_region.specs.Bounded.{Bounded}
use Rattle.p8_ledger.specs.Waiting.{newest_key}
use Rattle.p8_ledger.specs.declared.steps.Step.TheVariants.{Took}
use Rattle.p8_ledger.specs.Records.{turns, said}
use Rattle.p8_ledger.proofs.Coming.{next-announced}
use Rattle.p8_ledger.proofs.Stepping.{reverse-push, cogs-after}
use Rattle.p8_ledger.proofs.Telling.{take-truth, said-beside}
use Rattle.p8_ledger.specs.Dues.{AllMade}
use Rattle.p8_ledger.specs.Turns.{AreProper}
use Rattle.p8_ledger.proofs.Rows.{set-twice}
use Rattle.p8_ledger.proofs.Properly.{one-more, has-number}
use Rattle.p8_ledger.proofs.Granting.{sayings-after, made-after, front-as, read-at, plain-suits, plain-announced}
use Rattle.p8_ledger.proofs.ledger.Ledger.make_in_place.Goals as goal

pub invariant_of-self : goal.invariant_of-self
invariant_of-self c = record {
  clocks = c.args.self.now.clocks;
  room = ap (λ (t : Bounded Turn). t.room) c.add.ensures ∙ c.args.self.now.room;
  small = subst (λ (l : List Turn). IfSome (newest_key l) (λ key. key.clock < 2 ^ 61)) (sym (ap (λ (t : Bounded Turn). reverse t.list) c.add.ensures ∙ reverse-push c.args.self.now.turns.list (record { key = c.args.key; access = c.access_in-access.result.now; answer = c.answer-answer.result }))) c.requires.clock;
  eight = ap length (set-twice c.args.self.now.sayings c.args.key.cog (More (c.args.key.clock + 1)) (get_or c.args.self.now.sayings c.args.key.cog (At 0 Begin))) ∙ length-set c.args.self.now.sayings c.args.key.cog (More (c.args.key.clock + 1)) ∙ c.args.self.now.eight;
  made = subst AllMade (sym (set-twice c.args.self.now.sayings c.args.key.cog (More (c.args.key.clock + 1)) (get_or c.args.self.now.sayings c.args.key.cog (At 0 Begin)))) (made-after c.args.self.now.sayings c.args.key.cog (More (c.args.key.clock + 1)) c.args.self.now.made tt);
  proper = subst AreProper (sym (ap (λ (t : Bounded Turn). t.list) c.add.ensures)) (one-more c.args.self.now.turns.list (record { key = c.args.key; access = c.access_in-access.result.now; answer = c.answer-answer.result }) c.args.self.now.proper (c.requires.cog, c.access_in-access.ensures.proper, has-number c.access_in-access.result.now c.answer-answer.result c.access_in-access.ensures.proper c.answer-answer.ensures.fits));
}

pub returns-clause-made : goal.returns-clause-made
returns-clause-made c = record {
  cog = c.requires.cog;
  clock = c.requires.clock;
  fits = c.answer-answer.ensures.fits;
  made = λ running. c.access_in-access.ensures.made;
  announced = λ saying running at. next-announced (announced_by saying) c.args.key.clock c.args.key.cog c.access_in-access.result.now c.answer-answer.result ((plain-suits c.args.self.now.sayings c.args.key.cog c.args.key.clock _ c.access_in-access.result.now c.args.self.now.eight c.requires.cog c.access_in-access.ensures.made c.requires.plain c.access_in-access.ensures.said).next saying running at);
  room = subst (λ (m : ℕ). length c.args.self.now.turns.list < m) c.args.self.now.room c.requires.room;
  log = ap (λ (t : Bounded Turn). t.list) c.add.ensures;
  sayings = set-twice c.args.self.now.sayings c.args.key.cog (More (c.args.key.clock + 1)) (get_or c.args.self.now.sayings c.args.key.cog (At 0 Begin));
  boot = refl;
  limits = refl;
}

pub returns-clause-found : goal.returns-clause-found
returns-clause-found c = λ w r found extends fits.
    let turn : Turn = record { key = c.args.key; access = c.access_in-access.result.now; answer = c.answer-answer.result } in
    let hub = c.answer-answer.ensures.stands w (turns r) found.hub in
    let cogs = cogs-after w (turns r) turn found.origins found.others c.requires.cog c.access_in-access.ensures.proper c.answer-answer.ensures.fits in
    let sayings = sayings-after c.args.self.now.sayings (Took turn) r c.requires.cog found.sayings in
    let told : (n : ℕ) → n < 8 → slice_get (set (set c.args.self.now.sayings c.args.key.cog (get_or c.args.self.now.sayings c.args.key.cog (At 0 Begin))) c.args.key.cog (More (c.args.key.clock + 1))) n ≡ Some (said n (Took turn ∷ r)) = λ n near.
    ap (λ (l : List Next). slice_get l n) (set-twice c.args.self.now.sayings c.args.key.cog (More (c.args.key.clock + 1)) (get_or c.args.self.now.sayings c.args.key.cog (At 0 Begin))) ∙ sayings n near in
    let limit : c.args.self.now.limits.clocks ≡ w.clocks = ap (λ (w : World). w.clocks) found.world in
    record {
      world = found.world;
      log = ap (λ (t : Bounded Turn). reverse t.list) c.add.ensures ∙ reverse-push c.args.self.now.turns.list turn ∙ ap (λ (l : List Turn). turn ∷ l) found.log;
      hub = hub;
      sayings = told;
      truth = take-truth w r turn found.truth extends (λ origin state. c.access_in-access.ensures.made);
      legal = (found.legal, extends);
      origins = cogs.0;
      others = cogs.1;
      fronts = λ n near.
          front-as c.settle.new.self n c.args.self.now.limits.clocks w.clocks (cog_state w (turn ∷ turns r) n) (said n (Took turn ∷ r)) (said n (Took turn ∷ r)) (sym limit) refl
          (c.settle.ensures.fronts w (turns r) n (said n (Took turn ∷ r)) hub (told n near) (λ differ. front-as c.args.self.now.fronts n w.clocks c.args.self.now.limits.clocks (cog_state w (turns r) n) (said n r) (said n (Took turn ∷ r)) limit (said-beside (Took turn) r n (λ e. differ (sym e))) (found.fronts n near)));
    }

pub returns-clause-suits : goal.returns-clause-suits
returns-clause-suits c = plain-suits c.args.self.now.sayings c.args.key.cog c.args.key.clock _ c.access_in-access.result.now c.args.self.now.eight c.requires.cog c.access_in-access.ensures.made c.requires.plain c.access_in-access.ensures.said

pub access_in-access-requires-clause-announced : goal.access_in-access-requires-clause-announced
access_in-access-requires-clause-announced c = plain-announced _ c.args.key.clock (c.requires.plain _ (read-at c.args.self.now.sayings c.args.key.cog _ c.args.self.now.eight c.requires.cog))
