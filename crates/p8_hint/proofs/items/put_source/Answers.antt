use Rattle.std.proofs.Common.{◌∙◌, ◌++◌, ap, sym, append-nil}
use Rattle.p8_hint.specs.Tables.{facts_of}
use Rattle.p8_hint.proofs.Others.{source_other}
use Rattle.p8_hint.proofs.items.put_source.Goals as goal

pub returns-in_default : goal.returns-in_default
returns-in_default c =
    sym (append-nil c.args.hints.now.items)
    ∙ ap (λ m. c.args.hints.now.items ++ m) (source_other (facts_of c.args.facts.now) c.args.word.now c.args.place c.args.source.now.place c.args.source.now.kind c.in_default.not-Number c.in_default.not-Var)
