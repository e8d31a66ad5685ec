use Rattle.std.proofs.Common.{◌≡◌, ◌∙◌, ap, subst, reverse, List}
use Rattle.p8_access.specs.Worlds.{Line, World}
use Rattle.p8_ledger.specs.Worlds.{world_of}
use Rattle.p8_finish.specs.Finishes.{told_by, IsWhole}
use Rattle.p8_prop.specs.Works.{world_in}
use Rattle.p8_prop.proofs.driver.told_alone.Goals as goal

pub returns : goal.returns
returns c =
    let history = c.in_ok-ended.ended.history in
    let past = reverse history.turns.list in
    let same : world_of history.boot c.in_ok-script.script history.limits ≡ world_in c.args.start =
    ap (λ (script : List Line). world_of history.boot script history.limits) c.in_ok-script.ensures ∙ c.in_ok-ended.ensures.world in (
      past,
      c.in_ok-ended.ensures.ended,
      subst (λ (w : World). IsWhole c.args.finish w past) same c.in_ok-text.ensures.whole,
      c.in_ok-text.ensures.text ∙ ap (λ (w : World). told_by c.args.finish w past) same,
    )
