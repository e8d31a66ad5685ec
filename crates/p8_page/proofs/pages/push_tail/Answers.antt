use Rattle.std.proofs.lemmas.Result.{on_ok_weaker}
use Rattle.p8_page.specs.Page.{tail}
use Rattle.p8_page.specs.declared.frame.TheConstants.{RUNNING, CLOSING}
use Rattle.p8_page.specs.declared.script.TheConstants.{SCRIPT}
use Rattle.p8_page.proofs.Joining.{three}
use Rattle.p8_page.proofs.pages.push_tail.Goals as goal

pub returns : goal.returns
unfolding tail
returns c =
    on_ok_weaker c.push_text-3.result
    (λ e. three c.args.out.now.items RUNNING.now SCRIPT.now CLOSING.now _ _ _ c.in_ok-push_text.ensures c.in_ok-push_text-2.ensures e)
    c.push_text-3.ensures
