use Rattle.std.proofs.Common.{◌∙◌, sym, ap, [], ◌++◌, codes}
use Rattle.std.specs.Fmt.{decimal}
use Rattle.std.proofs.lemmas.Result.{on_ok_weaker}
use Rattle.p8_access.specs.declared.kinds.Access.{Access}
use Rattle.p8_view.specs.Nexts.{asks_text, awaited_text}
use Rattle.p8_view.specs.Words.{asked_text}
use Rattle.p8_view.proofs.Joined.{asks-else, then_two}
use Rattle.p8_view.proofs.nexts.push_asks.Goals as goal

pub returns-in_ok-push_text-in-Wait : goal.returns-in_ok-push_text-in-Wait
returns-in_ok-push_text-in-Wait c =
    on_ok_weaker c.push_awaited.result
    (λ e. then_two c.args.out.now.items (codes ", waits since clock " ++ decimal c.args.clock) (codes " for ") (awaited_text c.args.clock c.in-Wait.test) _ _ _ c.in_ok-push_numbered-in-Wait.ensures c.in_ok-push_text-in-Wait.ensures e
    ∙ ap (λ (a : Access). c.args.out.now.items ++ asks_text c.args.legend.now c.args.local.now c.args.clock a) (sym c.in-Wait.is))
    c.push_awaited.ensures

pub returns-in_ok-push_text-in_default : goal.returns-in_ok-push_text-in_default
returns-in_ok-push_text-in_default c =
    on_ok_weaker c.push_asked.result
    (λ e. then_two c.args.out.now.items (codes ", does next at clock " ++ decimal c.args.clock) (codes ": ") (asked_text c.args.legend.now.names c.args.local.now c.args.access.now) _ _ _ c.in_ok-push_numbered-in_default.ensures c.in_ok-push_text-in_default.ensures e
    ∙ ap (λ xs. c.args.out.now.items ++ xs) (sym (asks-else c.args.legend.now c.args.local.now c.args.clock c.args.access.now c.in_default.not-Wait)))
    c.push_asked.ensures
