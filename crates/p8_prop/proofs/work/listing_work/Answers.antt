use Rattle.p8_prop.proofs.Coming.{listed}
use Rattle.p8_prop.proofs.work.listing_work.Goals as goal

pub returns-clause-work : goal.returns-clause-work
returns-clause-work g c =
    listed (g.S.Shelf.files c.args.shelf.now) c.args.short c.args.file.now c.in_ok-text.text.items c.in_ok-text.ensures.text
