use Rattle.std.proofs.Common.{◌∙◌, sym, ap, ℕ, ◌++◌, codes}
use Rattle.std.specs.Fmt.{decimal}
use Rattle.std.proofs.lemmas.Result.{on_ok_weaker}
use Rattle.p8_access.specs.declared.kinds.Test.{Test}
use Rattle.p8_instr.specs.Numerals.{hex}
use Rattle.p8_view.specs.Nexts.{awaited_text, missed_text}
use Rattle.p8_view.proofs.Joined.{then_one, then_pair}
use Rattle.p8_view.proofs.nexts.push_awaited.Goals as goal

pub returns-in_ok-push_numbered-in-Count : goal.returns-in_ok-push_numbered-in-Count
returns-in_ok-push_numbered-in-Count c =
    on_ok_weaker c.push_missed.result
    (λ e. then_one c.args.out.now.items (codes "the counter to be " ++ decimal c.from.result) (missed_text c.args.since c.clocks_since.result) _ _ c.in_ok-push_numbered-in-Count.ensures e
    ∙ ap (λ (n : ℕ). c.args.out.now.items ++ (codes "the counter to be " ++ decimal n ++ missed_text c.args.since c.clocks_since.result)) c.from.ensures
    ∙ ap (λ (n : ℕ). c.args.out.now.items ++ (codes "the counter to be " ++ decimal c.in-Count.target ++ missed_text c.args.since n)) c.clocks_since.ensures.since
    ∙ ap (λ (t : Test). c.args.out.now.items ++ awaited_text c.args.since t) (sym c.in-Count.is))
    c.push_missed.ensures

pub returns-in_ok-push_long-in-PinsDiffer : goal.returns-in_ok-push_long-in-PinsDiffer
returns-in_ok-push_long-in-PinsDiffer c =
    on_ok_weaker c.push_long-in-PinsDiffer-2.result
    (λ e. then_pair c.args.out.now.items (codes "the pins " ++ hex 8 c.in-PinsDiffer.mask) (codes " not to be ") (hex 8 c.in-PinsDiffer.state) _ _ c.in_ok-push_long-in-PinsDiffer.ensures e
    ∙ ap (λ (t : Test). c.args.out.now.items ++ awaited_text c.args.since t) (sym c.in-PinsDiffer.is))
    c.push_long-in-PinsDiffer-2.ensures
