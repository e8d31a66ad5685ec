use Rattle.std.proofs.Common.{sym, ap, ◌∙◌, arith}
use Rattle.p8_lexer.specs.Words.{capital}
use Rattle.p8_lexer.proofs.Searches.{same_capitals, other_length, other_character}
use Rattle.p8_lexer.proofs.lookup.is_same.Goals as goal

pub returns-then-spelling-len : goal.returns-then-spelling-len
returns-then-spelling-len c = sym (other_length c.args.spelling.now c.args.text.now (λ e. absurd (omega arith)))

pub returns-then-c-capital : goal.returns-then-c-capital
returns-then-c-capital c =
    sym (other_character c.args.spelling.now c.args.text.now c.loop-i.i (omega arith) (λ e. c.if-c-capital.true (e ∙ ap capital (sym c.at.ensures) ∙ sym c.capital.ensures)))

pub returns : goal.returns
returns c = sym (same_capitals c.args.spelling.now c.args.text.now (omega arith) (λ k h. c.loop-i.invariant k (omega arith)))
