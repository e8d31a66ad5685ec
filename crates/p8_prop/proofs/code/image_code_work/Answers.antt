use Rattle.p8_prop.proofs.Coming.{image-coded}
use Rattle.p8_prop.proofs.code.image_code_work.Goals as goal

pub returns-clause-work : goal.returns-clause-work
returns-clause-work g c =
    image-coded (g.S.Shelf.files c.args.shelf.now) c.args.kind c.args.file.now c.in_ok-text.text.items c.in_ok-text.ensures.text
