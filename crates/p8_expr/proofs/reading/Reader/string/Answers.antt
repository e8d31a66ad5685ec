use Rattle.std.proofs.Common.{false, sym, ap, ◌∙◌, arith}
use Rattle.std.specs.Prelude.{◌<◌, ◌≤◌, length}
use Rattle.p8_grammar.specs.Machine.{fresh, in_place}
use Rattle.p8_expr.specs.Views.{frames_in}
use Rattle.p8_expr.specs.Lookaheads.{next_place, next_text}
use Rattle.p8_expr.proofs.Taking.{short_text, no_items, quoted_is}
use Rattle.p8_expr.proofs.reading.Reader.string.Goals as goal

pub returns-then-quoted_length-le1 : goal.returns-then-quoted_length-le1
returns-then-quoted_length-le1 c = λ t next.
    let old = c.args.self.now in
    let same = quoted_is (next_text old.ahead) old.ahead.lexeme t c.requires.fits.knows next in
    let short : length t ≤ 1 = omega (arith, c.quoted_length.ensures, ap length same) in
    c.operand.ensures (ap (λ y. in_place y fresh (frames_in old.stack) (next_place old.ahead)) next ∙ short_text t (frames_in old.stack) (next_place old.ahead) short)

pub returns-then-takes_text : goal.returns-then-takes_text
returns-then-takes_text c = λ t next.
    let old = c.args.self.now in
    let same = quoted_is (next_text old.ahead) old.ahead.lexeme t c.requires.fits.knows next in
    let long : 1 < length t = omega (arith, c.quoted_length.ensures, ap length same) in
    c.text.ensures t c.requires.fresh next long

pub returns-else-takes_text : goal.returns-else-takes_text
returns-else-takes_text c = λ t next.
    let old = c.args.self.now in
    c.operand-else-takes_text.ensures (ap (λ y. in_place y fresh (frames_in old.stack) (next_place old.ahead)) next ∙ no_items t (frames_in old.stack) (next_place old.ahead) (sym c.takes_text.ensures ∙ c.if-takes_text.false))
