use Rattle.std.proofs.Common.{◌∙◌, ap, ℕ, List, ◌++◌}
use Rattle.p8_access.specs.Worlds.{Line}
use Rattle.p8_pins.specs.LevelChanges.{lines_of}
use Rattle.p8_page.specs.Kept.{kept}
use Rattle.p8_page.specs.Page.{head, tail, page_of, run_blocks}
use Rattle.p8_page.proofs.Changing.{all_kept}
use Rattle.p8_page.proofs.Joining.{whole}
use Rattle.p8_page.proofs.pages.page.Goals as goal

pub returns : goal.returns
returns c blocks are =
    let lines : List Line = lines_of c.args.changes.now in
    whole head tail c.args.project.now _ _ _ _ (run_blocks c.args.file.now c.args.span.from c.args.span.to c.args.view.now (kept 0 c.args.span.end lines)) blocks are
    (c.in_ok-push_head.ensures ∙ ap (λ (text : List ℕ). text ++ head) c.new-out.ensures.items) c.in_ok-push_run.ensures c.in_ok-push_text.ensures c.in_ok-push_tail.ensures
    ∙ ap (λ (pins : List Line). page_of (run_blocks c.args.file.now c.args.span.from c.args.span.to c.args.view.now pins ++ blocks)) (all_kept c.args.span.end lines c.requires.rise)
