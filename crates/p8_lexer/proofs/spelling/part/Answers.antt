use Rattle.std.proofs.Common.{◌∙◌, sym, ap, take, arith}
use Rattle.std.proofs.lemmas.List.{take_all}
use Rattle.p8_lexer.proofs.spelling.part.Goals as goal

pub returns-then-len-count : goal.returns-then-len-count
returns-then-len-count c = sym (take_all c.args.count c.skip-rest.result (omega arith)) ∙ ap (take c.args.count) c.skip-rest.ensures
