use Rattle.std.proofs.Common.{◌∙◌, ap, sym, refl}
use Rattle.p8_lexer.specs.Words.{capital, word_spelled}
use Rattle.p8_lexer.specs.Table.{key}
use Rattle.p8_lexer.proofs.Searches.{empty_is_none, named_is, nonempty}
use Rattle.p8_lexer.proofs.lookup.named.Goals as goal

pub returns-then-is_empty : goal.returns-then-is_empty
returns-then-is_empty c = sym (ap word_spelled (c.if-is_empty.ensures.0 refl) ∙ empty_is_none)

pub returns : goal.returns
returns c =
    named_is c.args.text.now _ c.numbers_at-numbers.result.now c.key.result c.capital.result c.word_in.result (nonempty c.args.text.now (λ e. let no = c.if-is_empty.ensures.1 e in cc))
    (c.capital.ensures ∙ ap capital c.at.ensures) (c.key.ensures.value ∙ ap (key c.capital.result) c.len.ensures) c.numbers_at-numbers.ensures c.table.ensures.words c.word_in.ensures
