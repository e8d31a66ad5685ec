use Rattle.std.proofs.Common.{ap, ◌∙◌}
use Rattle.std.specs.Prelude.{map}
use Rattle.p8_lexer.specs.Words.{capital}
use Rattle.p8_grammar.proofs.Steps.{is_text}
use Rattle.p8_expr.specs.Words.{between_quotes}
use Rattle.p8_expr.specs.Views.{frames_in}
use Rattle.p8_expr.specs.Lookaheads.{next_place, next_lexeme, next_text}
use Rattle.p8_expr.proofs.Taking.{no_text, no_item_word}
use Rattle.p8_expr.proofs.Stepping.{word_is}
use Rattle.p8_expr.proofs.reading.Reader.begin.Goals as goal

pub returns-in-Str : goal.returns-in-Str
returns-in-Str c =
    let old = c.args.self.now in
    c.string.ensures (between_quotes (next_text old.ahead)) (word_is old.ahead _ c.requires.fits c.in-Str.is)

pub returns-in_default : goal.returns-in_default
returns-in_default c =
    let old = c.args.self.now in
    c.operand.ensures (no_item_word (next_lexeme old.ahead) (frames_in old.stack) (next_place old.ahead)
    (ap is_text c.requires.fits.knows ∙ no_text (map capital (next_text old.ahead)) (between_quotes (next_text old.ahead)) old.ahead.lexeme c.in_default.not-Str))
