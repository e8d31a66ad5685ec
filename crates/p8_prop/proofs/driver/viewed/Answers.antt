use Rattle.std.proofs.Common.{◌≡◌, ap, subst, sym, reverse, ℕ, List, Option}
use Rattle.std.proofs.lemmas.Result.{IfOk-weaker}
use Rattle.p8_access.specs.Worlds.{World}
use Rattle.p8_ledger.specs.Worlds.{world_of}
use Rattle.p8_view.specs.Ending.{view_of}
use Rattle.p8_prop.specs.Works.{world_in}
use Rattle.p8_prop.proofs.driver.viewed.Goals as goal

pub returns : goal.returns
returns c =
    let w = world_in c.args.start in
    let made = c.in_ok-counted.ensures in
    let counted = c.in_ok-counted.counted in
    let history = counted.ended.history in
    let past = reverse history.turns.list in
    let view = c.args.view.now in
    let same : w ≡ world_of history.boot c.args.start.script history.limits = sym made.world in
    let told = c.view.ensures w (ap (λ (v : World). v.memory) same) (ap (λ (v : World). v.first) same) (ap (λ (v : World). v.turns) same) (ap (λ (v : World). v.clocks) same) made.hub in
    IfOk-weaker c.view.result _ _
    (λ text is. (
      past,
      made.ended,
      (counted.counters.items, counted.asked, made.counters, made.asked, subst (λ (counters : List (Option ℕ)). text.items ≡ view_of view.options view.legend w counters counted.asked past view.dump) c.deref.ensures.value is),
    ))
    told
