use Rattle.std.proofs.Common.{◌∙◌, sym, ap, ◌++◌, codes}
use Rattle.std.specs.Fmt.{decimal}
use Rattle.std.proofs.lemmas.Result.{on_ok_weaker}
use Rattle.p8_view.specs.declared.doings.Doing.{Doing}
use Rattle.p8_report.specs.Text.{reason_text}
use Rattle.p8_view.specs.Ending.{doing_text, place_of}
use Rattle.p8_view.specs.Nexts.{next_text}
use Rattle.p8_view.proofs.Joined.{then_one, then_pair}
use Rattle.p8_view.proofs.doings.push_doing.Goals as goal

pub returns-in_ok-push_numbered-in-Runs-2 : goal.returns-in_ok-push_numbered-in-Runs-2
returns-in_ok-push_numbered-in-Runs-2 c =
    let old = c.args.out.now.items in
    let legend = c.args.nexts.now.legend.now in
    let told = c.args.told.now in
    let clocks = c.args.nexts.now.clocks in
    let begun = codes "runs since clock " ++ decimal c.in-Runs.clock in
    let both = then_pair old begun (codes ", its last turn is at clock ") (decimal told.last) _ _ c.in_ok-push_numbered-in-Runs.ensures c.in_ok-push_numbered-in-Runs-2.ensures in
    on_ok_weaker c.push_next.result
    (λ e. then_one old ((begun ++ codes ", its last turn is at clock ") ++ decimal told.last) (next_text legend clocks told.own told.asked.counter told.asked.next) _ _ both e
    ∙ ap (λ (d : Doing). old ++ doing_text legend clocks d told.last told.asking told.own told.asked) (sym c.in-Runs.is))
    c.push_next.ensures

pub returns-in_ok-push_halted-in-Halts : goal.returns-in_ok-push_halted-in-Halts
returns-in_ok-push_halted-in-Halts c =
    let old = c.args.out.now.items in
    let legend = c.args.nexts.now.legend.now in
    let told = c.args.told.now in
    let clocks = c.args.nexts.now.clocks in
    let halted = codes "halts at clock " ++ decimal c.in-Halts.clock ++ codes ": " ++ reason_text c.in-Halts.reason in
    on_ok_weaker c.push_asked_place.result
    (λ e. then_one old halted (place_of legend told.asking) _ _ c.in_ok-push_halted-in-Halts.ensures e
    ∙ ap (λ (d : Doing). old ++ doing_text legend clocks d told.last told.asking told.own told.asked) (sym c.in-Halts.is))
    c.push_asked_place.ensures
