use Rattle.std.proofs.Common.{◌≡◌, ◌∙◌, ap, sym, subst, refl, ℕ, true}
use Rattle.p8_access.specs.declared.order.Key.{Key}
use Rattle.p8_access.specs.Hub.{cog_state}
use Rattle.p8_access.specs.Lives.{announced_by, IsAnnounced}
use Rattle.p8_ledger.specs.Records.{turns, said, IsLeastFront}
use Rattle.p8_ledger.specs.Standing.{FitsState}
use Rattle.p8_ledger.proofs.Granting.{plain-granted}
use Rattle.p8_ledger.proofs.ledger.Ledger.take.Goals as goal

pub returns-else-key-cog-clause-decides : goal.returns-else-key-cog-clause-decides
returns-else-key-cog-clause-decides c = λ w r script found.
    let least = c.in-Some.ensures.least w r found in
    let own = plain-granted w r c.args.self.now c.in-Some.key least.0.0 c.make_said-turn.result found c.in-Some.ensures.suits.0 least.1 least.0.1 c.in-Some.ensures.suits.2 c.make_said-turn.ensures.suits c.make_said-turn.ensures.key (c.make_said-turn.ensures.answer w r script found) in
    let asks : c.in-Some.key.cog ≡ c.args.cog = c.if-key-cog.false in
    let cog : c.make_said-turn.result.key.cog ≡ c.args.cog = ap (λ (k : Key). k.cog) c.make_said-turn.ensures.key ∙ asks in
    let made = c.make_said-turn.ensures.made in (
      own.0,
      cog,
      subst (λ (k : Key). IsLeastFront w r k) (sym c.make_said-turn.ensures.key) least.1,
      subst (λ (n : ℕ). FitsState true (cog_state w (turns r) n)) asks own.1,
      λ running. subst (λ (n : ℕ). IsAnnounced (announced_by (said n r)) c.make_said-turn.result) cog (made.announced (said c.make_said-turn.result.key.cog r) refl (found.sayings c.make_said-turn.result.key.cog made.cog)),
    )

pub returns-else-key-cog-clause-found : goal.returns-else-key-cog-clause-found
returns-else-key-cog-clause-found c = λ w r script found.
    let least = c.in-Some.ensures.least w r found in
    let own = plain-granted w r c.args.self.now c.in-Some.key least.0.0 c.make_said-turn.result found c.in-Some.ensures.suits.0 least.1 least.0.1 c.in-Some.ensures.suits.2 c.make_said-turn.ensures.suits c.make_said-turn.ensures.key (c.make_said-turn.ensures.answer w r script found) in
    c.make_said-turn.ensures.found w r found own.0 own.1
