use Rattle.std.proofs.Common.{ap, ◌∙◌, Some, None}
use Rattle.p8_io.proofs.FilesOf.{get-held}
use Rattle.p8_io.proofs.memory_shelf.MemShelf.file.Goals as goal

pub returns-in-Some : goal.returns-in-Some
returns-in-Some c =
    ap Some c.as_slice.ensures.value
    ∙ get-held _ c.self.inside.contents c.args.name.now (Some c.in-Some.file.now) (ap (λ v. v.files) c.self.view_is) c.in-Some.ensures.value

pub returns-in-None : goal.returns-in-None
returns-in-None c = get-held _ c.self.inside.contents c.args.name.now None (ap (λ v. v.files) c.self.view_is) c.in-None.ensures.value
