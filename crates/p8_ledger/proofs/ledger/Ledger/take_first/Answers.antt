use Rattle.std.proofs.Common.{sym, subst, refl, true}
use Rattle.p8_access.specs.declared.order.Key.{Key}
use Rattle.p8_access.specs.Hub.{cog_state}
use Rattle.p8_ledger.specs.Records.{turns, said, IsLeastFront}
use Rattle.p8_ledger.specs.Standing.{FitsState}
use Rattle.p8_ledger.proofs.Granting.{plain-granted}
use Rattle.p8_ledger.proofs.ledger.Ledger.take_first.Goals as goal

pub returns-in-Some-clause-decides : goal.returns-in-Some-clause-decides
returns-in-Some-clause-decides c = λ w r script found.
    let least = c.in-Some.ensures.least w r found in
    let own = plain-granted w r c.args.self.now c.in-Some.key least.0.0 c.make_said-turn.result found c.in-Some.ensures.suits.0 least.1 least.0.1 c.in-Some.ensures.suits.2 c.make_said-turn.ensures.suits c.make_said-turn.ensures.key (c.make_said-turn.ensures.answer w r script found) in (
      own.0,
      subst (λ (k : Key). IsLeastFront w r k) (sym c.make_said-turn.ensures.key) least.1,
      subst (λ (k : Key). FitsState true (cog_state w (turns r) k.cog)) (sym c.make_said-turn.ensures.key) own.1,
      λ running. c.make_said-turn.ensures.made.announced (said c.make_said-turn.result.key.cog r) refl (found.sayings c.make_said-turn.result.key.cog c.make_said-turn.ensures.made.cog),
    )

pub returns-in-Some-clause-found : goal.returns-in-Some-clause-found
returns-in-Some-clause-found c = λ w r script found.
    let least = c.in-Some.ensures.least w r found in
    let own = plain-granted w r c.args.self.now c.in-Some.key least.0.0 c.make_said-turn.result found c.in-Some.ensures.suits.0 least.1 least.0.1 c.in-Some.ensures.suits.2 c.make_said-turn.ensures.suits c.make_said-turn.ensures.key (c.make_said-turn.ensures.answer w r script found) in
    c.make_said-turn.ensures.found w r found own.0 own.1
