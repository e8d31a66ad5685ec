use Rattle.std.proofs.Common.{◌∙◌, ap, sym, subst, true}
use Rattle.p8_access.specs.declared.kinds.Access.{Access}
use Rattle.p8_access.specs.Histories.{answer_to}
use Rattle.p8_ledger.specs.Dues.{Suits}
use Rattle.p8_ledger.specs.Records.{turns}
use Rattle.p8_ledger.proofs.ledger.Ledger.make_said.Goals as goal

pub make_alone-requires-clause-suits : goal.make_alone-requires-clause-suits
make_alone-requires-clause-suits c =
    subst (λ (a : Access). Suits c.args.self.now.sayings c.args.key.cog c.args.key.clock (record { access = a; running = true })) c.in-Write.is c.plain_access.ensures

pub make_alone-requires-in-Read-clause-suits : goal.make_alone-requires-in-Read-clause-suits
make_alone-requires-in-Read-clause-suits c =
    subst (λ (a : Access). Suits c.args.self.now.sayings c.args.key.cog c.args.key.clock (record { access = a; running = true })) c.in-Read.is c.plain_access.ensures

pub returns-in-Write-clause-suits : goal.returns-in-Write-clause-suits
returns-in-Write-clause-suits c =
    subst (λ (a : Access). Suits c.args.self.now.sayings c.args.key.cog c.args.key.clock (record { access = a; running = true })) (c.in-Write.is ∙ sym c.make_alone.ensures.access) c.plain_access.ensures

pub returns-in-Write-clause-answer : goal.returns-in-Write-clause-answer
returns-in-Write-clause-answer c = λ w r script found.
    c.make_alone.ensures.answer w r script found ∙ ap (λ (a : Access). answer_to w (turns r) c.args.key a) (sym c.make_alone.ensures.access)

pub returns-in-Read-clause-suits : goal.returns-in-Read-clause-suits
returns-in-Read-clause-suits c =
    subst (λ (a : Access). Suits c.args.self.now.sayings c.args.key.cog c.args.key.clock (record { access = a; running = true })) (c.in-Read.is ∙ sym c.make_alone-in-Read.ensures.access) c.plain_access.ensures

pub returns-in-Read-clause-answer : goal.returns-in-Read-clause-answer
returns-in-Read-clause-answer c = λ w r script found.
    c.make_alone-in-Read.ensures.answer w r script found ∙ ap (λ (a : Access). answer_to w (turns r) c.args.key a) (sym c.make_alone-in-Read.ensures.access)
