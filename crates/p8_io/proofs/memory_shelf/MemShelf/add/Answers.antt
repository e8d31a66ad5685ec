use Rattle.std.proofs.Common.{ap}
use Rattle.p8_io.proofs.FilesOf.{held-insert}
use Rattle.p8_io.proofs.memory_shelf.MemShelf.add.Goals as goal

pub returns-in-Ok-clause-ok : goal.returns-in-Ok-clause-ok
returns-in-Ok-clause-ok c =
    held-insert _ c.self.inside.contents c.insert.new.self c.in_ok-name.name c.in_ok-bytes.bytes _ _
    (ap (λ v. v.files) c.self.view_is) c.in_ok-name.ensures.ok c.in_ok-bytes.ensures.items c.in-Ok.ensures.updates
