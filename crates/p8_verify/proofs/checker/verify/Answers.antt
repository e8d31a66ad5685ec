use Rattle.std.proofs.Common.{ap, subst, inl}
use Rattle.p8_verify.specs.declared.verdicts.Verdict.{Verdict}
use Rattle.p8_verify.specs.declared.verdicts.Verdict.TheVariants.{Good, Bad}
use Rattle.p8_verify.specs.Verdicts.{IsVerdict}
use Rattle.p8_verify.specs.Answers.{answer_of}
use Rattle.p8_verify.proofs.OneVerdict.{one-verdict, good-file, file-good}
use Rattle.p8_verify.proofs.checker.verify.Goals as goal

pub returns-in-Good-clause-only : goal.returns-in-Good-clause-only
returns-in-Good-clause-only c = λ verdict is.
    let own = subst (λ (v : Verdict). IsVerdict c.args.boot c.args.script c.args.bytes.now v) c.in-Good.is c.in_ok-count.ensures in
    inl (ap answer_of (one-verdict c.args.boot c.args.script c.args.bytes.now (Good c.in-Good.count) verdict own is))

pub returns-in-Good-clause-good : goal.returns-in-Good-clause-good
returns-in-Good-clause-good c =
    good-file c.args.boot c.args.script c.args.bytes.now c.in-Good.count (subst (λ (v : Verdict). IsVerdict c.args.boot c.args.script c.args.bytes.now v) c.in-Good.is c.in_ok-count.ensures)

pub returns-in-Good-clause-each : goal.returns-in-Good-clause-each
returns-in-Good-clause-each c = λ count is. returns-in-Good-clause-only c (Good count) (file-good c.args.boot c.args.script c.args.bytes.now count is)

pub returns-in-Bad-clause-only : goal.returns-in-Bad-clause-only
returns-in-Bad-clause-only c = λ verdict is.
    let own = subst (λ (v : Verdict). IsVerdict c.args.boot c.args.script c.args.bytes.now v) c.in-Bad.is c.in_ok-count.ensures in
    inl (ap answer_of (one-verdict c.args.boot c.args.script c.args.bytes.now (Bad c.in-Bad.turn c.in-Bad.cause) verdict own is))

pub returns-in-Bad-clause-each : goal.returns-in-Bad-clause-each
returns-in-Bad-clause-each c = λ count is. returns-in-Bad-clause-only c (Good count) (file-good c.args.boot c.args.script c.args.bytes.now count is)
