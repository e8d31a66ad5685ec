use Rattle.std.proofs.Common.{flat_map}
use Rattle.std.proofs.lemmas.Result.{on_ok_weaker}
use Rattle.p8_pins.specs.LevelChanges.{lines_of}
use Rattle.p8_page.specs.declared.block_kind.BlockKind.TheVariants as kind
use Rattle.p8_page.specs.Blocks.{block_text}
use Rattle.p8_page.specs.Kept.{kept}
use Rattle.p8_page.specs.Page.{pins_line, range_text, windows_text}
use Rattle.p8_page.proofs.Joining.{five}
use Rattle.p8_page.proofs.pages.push_run.Goals as goal

pub returns : goal.returns
returns c =
    on_ok_weaker c.push_pins_block.result
    (λ e. five c.args.out.now.items (block_text kind.File c.args.file.now) (block_text kind.Range (range_text c.args.span.from c.args.span.to)) (block_text kind.Windows (windows_text c.args.span.from)) (block_text kind.View c.args.view.now) (block_text kind.Pins (flat_map pins_line (kept 0 c.args.span.end (lines_of c.args.changes.now)))) _ _ _ _ _
    c.in_ok-push_block.ensures c.in_ok-push_range_block.ensures c.in_ok-push_windows_block.ensures c.in_ok-push_block-2.ensures e)
    c.push_pins_block.ensures
