use Rattle.std.proofs.lemmas.Result.{on_ok_weaker}
use Rattle.p8_page.specs.declared.block_kind.BlockKind.TheVariants as kind
use Rattle.p8_page.specs.Blocks.{block_text}
use Rattle.p8_page.proofs.Joining.{one}
use Rattle.p8_page.proofs.blocks.push_map.Goals as goal

pub returns : goal.returns
returns c = on_ok_weaker c.push_block.result (one c.args.out.now.items (block_text kind.Map c.args.map.now) _) c.push_block.ensures
