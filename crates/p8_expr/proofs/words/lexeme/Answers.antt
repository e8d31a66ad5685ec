use Rattle.std.proofs.Common.{map, sym, ap, ◌∙◌}
use Rattle.p8_lexer.specs.Characters.{characters}
use Rattle.p8_lexer.specs.Words.{capital}
use Rattle.p8_grammar.specs.Machine.{loose}
use Rattle.p8_expr.specs.Words.{lexeme_of_token, lexeme_by_kind, between_quotes}
use Rattle.p8_expr.proofs.Loose.{loose_token, loose_name}
use Rattle.p8_expr.proofs.words.lexeme.Goals as goal

pub returns-in-Name : goal.returns-in-Name
unfolding lexeme_of_token
returns-in-Name c =
    let text = characters c.args.bytes.now c.args.token.now in
    ap (λ w. loose (lexeme_by_kind text w c.args.token.now.kind)) (sym c.word_of.ensures ∙ c.in-Name.is) ∙ loose_name text c.args.token.now.kind c.in_default.not-Number c.in_default.not-Str

pub returns-in_default-word_of : goal.returns-in_default-word_of
unfolding lexeme_of_token
returns-in_default-word_of c =
    let text = characters c.args.bytes.now c.args.token.now in
    ap (λ w. loose (lexeme_by_kind text w c.args.token.now.kind)) (sym c.word_of.ensures) ∙ loose_token text c.word_of.result c.args.token.now.kind c.in_default-word_of.not-Name c.in_default.not-Number c.in_default.not-Str
    ∙ sym (c.lexeme_of_word.ensures (map capital text) (between_quotes text))
