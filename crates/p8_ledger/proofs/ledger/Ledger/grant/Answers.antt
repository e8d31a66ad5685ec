use Rattle.std.proofs.Common.{◌≡◌, sym, subst, Some, slice_get}
use Rattle.p8_access.specs.declared.order.Key.{Key}
use Rattle.p8_ledger.specs.Records.{said}
use Rattle.p8_ledger.proofs.Granting.{granted}
use Rattle.p8_ledger.proofs.ledger.Ledger.grant.Goals as goal

pub returns-in-Some-clause-granted : goal.returns-in-Some-clause-granted
returns-in-Some-clause-granted c = λ w r script found least.
    let due_is = c.in-Some.ensures.due w r found least.there in
    let extends = granted w r c.args.self.now c.args.key c.in-Some.due c.make-turn.result found least c.requires.room due_is c.make-turn.ensures.key c.make-turn.ensures.access (c.make-turn.ensures.answer w r script found) in
    let there = subst (λ (k : Key). slice_get c.args.self.now.sayings k.cog ≡ Some (said c.args.key.cog r)) (sym c.make-turn.ensures.key) (found.sayings c.args.key.cog c.requires.cog) in
    (extends, c.make-turn.ensures.key, due_is.1, λ running. c.make-turn.ensures.made.announced (said c.args.key.cog r) running there)

pub returns-in-Some-clause-found : goal.returns-in-Some-clause-found
returns-in-Some-clause-found c = λ w r script found least.
    let due_is = c.in-Some.ensures.due w r found least.there in
    let extends = granted w r c.args.self.now c.args.key c.in-Some.due c.make-turn.result found least c.requires.room due_is c.make-turn.ensures.key c.make-turn.ensures.access (c.make-turn.ensures.answer w r script found) in
    c.make-turn.ensures.found w r found extends due_is.1
