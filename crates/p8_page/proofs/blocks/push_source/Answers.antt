use Rattle.std.proofs.lemmas.Result.{on_ok_weaker}
use Rattle.p8_page.specs.declared.block_kind.BlockKind.TheVariants as kind
use Rattle.p8_page.specs.Blocks.{block_text}
use Rattle.p8_page.proofs.Joining.{two}
use Rattle.p8_page.proofs.blocks.push_source.Goals as goal

pub returns : goal.returns
returns c =
    on_ok_weaker c.push_block-2.result
    (λ e. two c.args.out.now.items (block_text kind.Name c.args.name.now) (block_text kind.Source c.args.bytes.now) _ _ c.in_ok-push_block.ensures e)
    c.push_block-2.ensures
