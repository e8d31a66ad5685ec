use Rattle.std.proofs.Common.{◌≡◌, ◌∙◌, List, ap, subst, sym, false}
use Rattle.std.specs.Prelude.{IfOk}
use Rattle.p8_page.specs.Page.{Block, blocks_text}
use Rattle.p8_inputs.specs.declared.program.Format.{Format}
use Rattle.p8_inputs.specs.declared.program.Format.TheVariants.{Source}
use Rattle.p8_inputs.specs.Pages.{AreBlocksFrom}
use Rattle.p8_inputs.specs.Steps.{IsBootOf}
use Rattle.p8_inputs.proofs.page.program_shown.Goals as goal

pub returns-else-short-clause-boot : goal.returns-else-short-clause-boot
returns-else-short-clause-boot g c =
    let same : c.args.program.format ≡ Source false = c.in-Source.is ∙ ap Source c.if-short.false in
    subst (λ (format : Format). IfOk c.source_shown.result (λ read. IsBootOf (g.S.Shelf.files c.args.shelf.now) format c.args.program.file.now read.boot)) (sym same) c.source_shown.ensures.boot

pub returns-else-short-clause-blocks : goal.returns-else-short-clause-blocks
returns-else-short-clause-blocks g c =
    let same : c.args.program.format ≡ Source false = c.in-Source.is ∙ ap Source c.if-short.false in
    subst
    (λ (format : Format). IfOk c.source_shown.result (λ read. (blocks : List Block) × AreBlocksFrom (g.S.Shelf.files c.args.shelf.now) format c.args.program.file.now blocks × (read.project.items ≡ blocks_text blocks)))
    (sym same) c.source_shown.ensures.blocks
