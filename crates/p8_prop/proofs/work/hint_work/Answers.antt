use Rattle.p8_prop.proofs.Coming.{hinted}
use Rattle.p8_prop.proofs.work.hint_work.Goals as goal

pub returns-clause-work : goal.returns-clause-work
returns-clause-work g c =
    hinted (g.S.Shelf.files c.args.shelf.now) c.args.file.now c.in_ok-text.text.items c.in_ok-text.ensures.text
