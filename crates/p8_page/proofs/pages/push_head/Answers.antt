use Rattle.std.proofs.lemmas.Result.{on_ok_weaker}
use Rattle.p8_page.specs.Page.{head}
use Rattle.p8_page.specs.declared.frame.TheConstants.{OPENING, BODY}
use Rattle.p8_page.specs.declared.style.TheConstants.{STYLE}
use Rattle.p8_page.proofs.Joining.{three}
use Rattle.p8_page.proofs.pages.push_head.Goals as goal

pub returns : goal.returns
unfolding head
returns c =
    on_ok_weaker c.push_text-3.result
    (λ e. three c.args.out.now.items OPENING.now STYLE.now BODY.now _ _ _ c.in_ok-push_text.ensures c.in_ok-push_text-2.ensures e)
    c.push_text-3.ensures
