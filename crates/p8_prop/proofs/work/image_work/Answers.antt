use Rattle.p8_prop.proofs.Coming.{built}
use Rattle.p8_prop.proofs.work.image_work.Goals as goal

pub returns-clause-work : goal.returns-clause-work
returns-clause-work g c =
    built (g.S.Shelf.files c.args.shelf.now) c.args.short c.args.file.now c.in_ok-text.text.items c.in_ok-text.ensures.text c.in_ok-text.ensures.keeps
