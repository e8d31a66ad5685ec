use Rattle.std.proofs.Common.{◌∙◌}
use Rattle.p8_lexer.proofs.Cuts.{symbol_named, symbol_result}
use Rattle.p8_lexer.proofs.cut.symbol_number.Goals as goal

pub returns-in-Some : goal.returns-in-Some
returns-in-Some c = symbol_result c.args.text.now c.in-Some.word c.symbol_number.result c.in-Some.ensures c.symbol_number.ensures

pub returns-in-None : goal.returns-in-None
returns-in-None c = λ n w at e. let named = symbol_named n w at c.args.text.now e in let none = c.in-None.ensures ∙ named in cc
