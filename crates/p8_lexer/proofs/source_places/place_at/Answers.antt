use Rattle.std.proofs.Common.{◌∙◌, ap, arith}
use Rattle.p8_lexer.specs.Places.{behind}
use Rattle.p8_lexer.proofs.PlaceLemmas.{line_small, column_counted, column_small, place_more, before_more}
use Rattle.p8_lexer.proofs.source_places.place_at.Goals as goal

pub behind-place-requires-clause-line : goal.behind-place-requires-clause-line
behind-place-requires-clause-line c =
    let h = line_small c.args.text.now c.loop-i.i c.loop-i.place (omega arith) c.loop-i.invariant.at in omega (arith, h)

pub behind-place-requires-clause-counted : goal.behind-place-requires-clause-counted
behind-place-requires-clause-counted c = column_counted c.args.text.now c.loop-i.i c.loop-i.place (omega arith) c.loop-i.invariant.at

pub behind-place-requires-clause-column : goal.behind-place-requires-clause-column
behind-place-requires-clause-column c =
    let h = column_small c.args.text.now c.loop-i.i c.loop-i.place (omega arith) c.loop-i.invariant.at in omega (arith, h)

pub loop-i-preserved : goal.loop-i-preserved
loop-i-preserved c =
    record {
      at = place_more c.args.text.now c.loop-i.i c.loop-i.before c.loop-i.place _ (omega arith) c.loop-i.invariant.behind c.loop-i.invariant.at (c.behind-place.ensures.place ∙ ap (behind c.loop-i.before c.loop-i.place) c.at-c.ensures);
      behind = before_more c.args.text.now c.loop-i.i c.at-c.result c.at-c.ensures;
    }
