use Rattle.p8_prop.proofs.Coming.{accepted}
use Rattle.p8_prop.proofs.work.accepted_work.Goals as goal

pub returns-clause-work : goal.returns-clause-work
returns-clause-work g c =
    accepted (g.S.Shelf.files c.args.shelf.now) c.args.file.now c.in_ok-_image._image.file c.in_ok-text.text.items c.in_ok-_image.ensures.image c.in_ok-text.ensures
