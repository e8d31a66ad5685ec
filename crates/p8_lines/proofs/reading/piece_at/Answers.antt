use Rattle.p8_lines.proofs.Pieces.{name_piece, text_piece, word_piece}
use Rattle.p8_lines.proofs.reading.piece_at.Goals as goal

pub returns-in_ok-name-in-Name : goal.returns-in_ok-name-in-Name
returns-in_ok-name-in-Name c =
    name_piece c.args.here.now c.word.result c.in_ok-name-in-Name.name c.place-place.result c.word.ensures c.in-Name.is c.in_ok-name-in-Name.ensures c.place-place.ensures

pub returns-in_ok-text-in-Str : goal.returns-in_ok-text-in-Str
returns-in_ok-text-in-Str c =
    text_piece c.args.here.now c.word.result c.in_ok-text-in-Str.text c.place-place.result c.word.ensures c.in-Str.is c.in_ok-text-in-Str.ensures c.place-place.ensures

pub returns-in_default : goal.returns-in_default
returns-in_default c = word_piece c.args.here.now c.word.result c.place-place.result c.word.ensures c.in_default.not-Name c.in_default.not-Str c.place-place.ensures
