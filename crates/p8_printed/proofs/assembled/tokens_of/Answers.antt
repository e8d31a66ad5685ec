use Rattle.std.proofs.lemmas.Result.{IfErr-weaker}
use Rattle.p8_tree.specs.Faults.{IfRefused}
use Rattle.p8_tree.proofs.Failing.{only_memory}
use Rattle.p8_lexer.specs.Lexing.{IsFault}
use Rattle.p8_printed.specs.ReadBack.{IsNotRefused}
use Rattle.p8_printed.proofs.Calling.{no_fault}
use Rattle.p8_printed.proofs.assembled.tokens_of.Goals as goal

pub returns-clause-accepted : goal.returns-clause-accepted
returns-clause-accepted c =
    let bytes = c.args.source.now in
    IfErr-weaker c.lex.result (IfRefused (IsFault bytes)) IsNotRefused (only_memory (IsFault bytes) (no_fault c.args.long c.ranges.long.fits bytes c.requires)) c.lex.ensures.refused
