use Rattle.std.proofs.Common.{None, sym, ap, ◌∙◌}
use Rattle.std.specs.Prelude.{◌∷◌}
use Rattle.p8_tree.specs.Expressions.{node, Number}
use Rattle.p8_grammar.specs.Lexemes.{inside}
use Rattle.p8_grammar.specs.Grammar.{infix_of}
use Rattle.p8_grammar.specs.Machine.{operate, first_item, inside_frame}
use Rattle.p8_grammar.specs.Views.{setting_of}
use Rattle.p8_expr.specs.Views.{frames_in}
use Rattle.p8_expr.specs.Lookaheads.{next_place, next_word, next_lexeme}
use Rattle.p8_expr.specs.Reading.{state_of}
use Rattle.p8_expr.proofs.Taking.{read_here, read_none, read_some}
use Rattle.p8_expr.proofs.reading.Reader.character.Goals as goal

pub returns-in-Some : goal.returns-in-Some
returns-in-Some c =
    let old = c.args.self.now in
    let f = old.form.parts in
    let s = setting_of old.ahead.setting in
    let k = frames_in old.stack in
    let p = next_place old.ahead in
    c.numbered.ensures (state_of old)
    (read_here s old.form.stage f k p (next_word old.ahead) c.requires.stage c.requires.stuck
    ∙ read_some s f.place f.at f.name c.in-Some.character k p (next_lexeme old.ahead) (sym c.lone.ensures ∙ c.in-Some.is)
    ∙ ap (λ n. operate (inside s) None (infix_of (next_lexeme old.ahead)) p (node f.at (Number n)) (inside_frame s (first_item f.place) ∷ k)) (sym c.from.ensures))

pub returns-in-None : goal.returns-in-None
returns-in-None c =
    let old = c.args.self.now in
    let f = old.form.parts in
    let s = setting_of old.ahead.setting in
    let k = frames_in old.stack in
    let p = next_place old.ahead in
    read_here s old.form.stage f k p (next_word old.ahead) c.requires.stage c.requires.stuck
    ∙ read_none s f.place f.at f.name k p (next_lexeme old.ahead) (sym c.lone.ensures ∙ c.in-None.is)
