use Rattle.std.proofs.Common.{◌≡◌, ◌∙◌, ◌++◌, ap, ap₂, subst, sym, reverse, ℕ, List, Option, None, false}
use Rattle.std.proofs.lemmas.Result.{IfOk-weaker}
use Rattle.p8_access.specs.declared.order.Turn.{Turn}
use Rattle.p8_access.specs.Histories.{Rises}
use Rattle.p8_access.specs.Worlds.{World, level_at}
use Rattle.p8_access.proofs.Rising.{rises}
use Rattle.p8_cog.specs.Lives.{asks}
use Rattle.p8_cog.specs.Laws.{one-asked, asked-first, asked-later}
use Rattle.p8_ledger.specs.Worlds.{world_of}
use Rattle.p8_pins.specs.declared.change.Change.{Change}
use Rattle.p8_pins.specs.LevelChanges.{lines_of, RiseFrom, Tells}
use Rattle.p8_pins.specs.Levels.{pins_when, end_of}
use Rattle.p8_page.specs.Page.{changes_by, page_of, run_blocks}
use Rattle.p8_view.specs.Ending.{view_of}
use Rattle.p8_prop.specs.Texts.{options_of}
use Rattle.p8_prop.specs.Works.{world_in}
use Rattle.p8_prop.proofs.driver.paged.Goals as goal

pub pin_changes-requires : goal.pin_changes-requires
pin_changes-requires c =
    subst (λ (turns : List Turn). Rises (reverse turns)) (sym c.as_slice-turns.ensures)
    (rises asks (world_in c.args.start) one-asked asked-first asked-later (reverse c.in_ok-counted.counted.ended.history.turns.list) c.in_ok-counted.ensures.ended.legal)

pub page-requires-clause-rise : goal.page-requires-clause-rise
page-requires-clause-rise c =
    subst (λ (changes : List Change). RiseFrom 0 (lines_of changes)) (sym c.deref-4.ensures.value) (c.in_ok-changes.ensures (world_in c.args.start) (sym c.in_ok-script.ensures)).rise

pub returns : goal.returns
returns c blocks are =
    let w = world_in c.args.start in
    let made = c.in_ok-counted.ensures in
    let counted = c.in_ok-counted.counted in
    let history = counted.ended.history in
    let past = reverse history.turns.list in
    let page = c.args.page.now in
    let same : w ≡ world_of history.boot c.args.start.script history.limits = sym made.world in
    let view = c.in_ok-view.view.items in
    let seen = subst
    (λ (counters : List (Option ℕ)). view ≡ view_of (options_of false false None page.from page.to) page.legend w counters counted.asked past None) c.deref.ensures.value
    (c.in_ok-view.ensures w (ap (λ (v : World). v.memory) same) (ap (λ (v : World). v.first) same) (ap (λ (v : World). v.turns) same) (ap (λ (v : World). v.clocks) same) made.hub) in
    let turned : c.as_slice-turns.result.now ≡ history.turns.list = c.as_slice-turns.ensures in
    let tells : Tells w past (lines_of c.in_ok-changes.changes.items) =
    subst (λ (turns : List Turn). Tells w (reverse turns) (lines_of c.in_ok-changes.changes.items)) turned (c.in_ok-changes.ensures w (sym c.in_ok-script.ensures)) in
    let pins : level_at (lines_of c.in_ok-changes.changes.items) ≡ pins_when w past = λ i t. tells.pins t i in
    let ends = c.run_end.result in
    let shown = λ (file seen : List ℕ) (pins : ℕ → ℕ) (end : ℕ). page_of (run_blocks file page.from page.to seen (changes_by pins end) ++ blocks) in
    let end = c.run_end.ensures w (ap (λ (v : World). v.clocks) same) (ap (λ (v : World). v.turns) same) ∙ ap (λ (turns : List Turn). end_of w (reverse turns)) turned in
    IfOk-weaker c.page.result _ _
    (λ text is. (
      past,
      made.ended,
      (
        view,
        (counted.counters.items, counted.asked, made.counters, made.asked, seen),
        is
            ∙ ap₂ (λ (file seen : List ℕ). shown file seen (level_at (lines_of c.deref-4.result.now)) ends) c.deref-2.ensures.value c.deref-3.ensures.value
            ∙ ap (λ (changes : List Change). shown page.file.items view (level_at (lines_of changes)) ends) c.deref-4.ensures.value
            ∙ ap₂ (λ (pins : ℕ → ℕ) (end : ℕ). shown page.file.items view pins end) pins end,
      ),
    ))
    (c.page.ensures blocks (c.deref-5.ensures.value ∙ are))
