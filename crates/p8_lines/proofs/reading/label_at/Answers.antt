use Rattle.std.proofs.Common.{◌∙◌, map}
use Rattle.p8_lexer.specs.Words.{capital}
use Rattle.p8_expr.specs.Cursors.{text_there}
use Rattle.p8_lines.proofs.Pieces.{label_named, label_unnamed}
use Rattle.p8_lines.proofs.reading.label_at.Goals as goal

pub returns-in_ok-name : goal.returns-in_ok-name
returns-in_ok-name c =
    let here = c.args.here.now in
    label_named here c.is_label.result (map capital (text_there here)) c.in_ok-name.name c.place-place.result c.if-is_label.true c.is_label.ensures c.in_ok-name.ensures c.place-place.ensures

pub returns-else-is_label : goal.returns-else-is_label
returns-else-is_label c =
    let here = c.args.here.now in
    label_unnamed here c.is_label.result (map capital (text_there here)) c.from_vec.result c.place-place.result
    c.if-is_label.false c.is_label.ensures (c.from_vec.ensures ∙ c.new.ensures.items) c.place-place.ensures
