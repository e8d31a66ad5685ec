use Rattle.std.proofs.Common.{◌∙◌, sym, subst, Some}
use Rattle.p8_access.specs.declared.lives.Next.{Next}
use Rattle.p8_access.specs.Lives.{announced_by}
use Rattle.p8_ledger.specs.Records.{turns, said}
use Rattle.p8_ledger.specs.Waiting.{IsNextAt}
use Rattle.p8_ledger.proofs.Coming.{made-proper}
use Rattle.p8_ledger.proofs.Granting.{due-none, due-some}
use Rattle.p8_ledger.proofs.Rows.{got-item}
use Rattle.p8_ledger.proofs.ledger.Ledger.due_at.Goals as goal

pub returns-in-None-clause-due : goal.returns-in-None-clause-due
returns-in-None-clause-due c = λ w r found front.
    due-none w r c.args.cog c.args.clock c.in-Running.origin (sym (c.state.ensures w (turns r) found.hub) ∙ c.in-Running.is) (found.truth c.args.cog) _
    (got-item c.args.self.now.sayings c.args.cog (said c.args.cog r) _ (found.sayings c.args.cog c.requires)) c.in-None.ensures.next front

pub returns-in-Some-clause-due : goal.returns-in-Some-clause-due
returns-in-Some-clause-due c = λ w r found front.
    due-some w r c.args.cog c.args.clock c.in-Running.origin (sym (c.state.ensures w (turns r) found.hub) ∙ c.in-Running.is) (found.truth c.args.cog) _
    (got-item c.args.self.now.sayings c.args.cog (said c.args.cog r) _ (found.sayings c.args.cog c.requires)) c.in-Some.access c.in-Some.ensures.next front

pub returns-in-Some-clause-suits : goal.returns-in-Some-clause-suits
returns-in-Some-clause-suits c = record {
  proper = made-proper c.in-Some.access c.in-Some.ensures.made;
  made = λ running. c.in-Some.ensures.made;
  next = λ saying running at. subst (λ (s : Next). IsNextAt (announced_by s) c.args.clock (Some c.in-Some.access)) (sym (got-item c.args.self.now.sayings c.args.cog saying _ at)) c.in-Some.ensures.next;
}
