use Rattle.std.proofs.Common.{◌≡◌, ◌∙◌, ap, sym, refl, subst, List, length, min, reverse}
use Rattle.p8_access.specs.Worlds.{World}
use Rattle.p8_ledger.specs.Worlds.{world_of}
use Rattle.p8_pins.specs.declared.change.Change.{Change}
use Rattle.p8_pins.specs.Levels.{end_of}
use Rattle.p8_pins.specs.LevelChanges.{lines_of, RiseFrom, Tells}
use Rattle.p8_wave.specs.Ending.{ended_text, last_clock}
use Rattle.p8_wave.proofs.Ended.{ended-as}
use Rattle.p8_wave.proofs.Plotting.{told-picture, told-plot}
use Rattle.p8_wave.proofs.picture.plot.Goals as goal

pub picture-requires-clause-rise : goal.picture-requires-clause-rise
picture-requires-clause-rise c =
    let w : World = world_of c.args.boot.now c.args.script.now c.args.limits in
    subst (λ (changes : List Change). RiseFrom 0 (lines_of changes)) (sym c.as_slice.ensures.value) (c.in_ok-changes.ensures w refl).rise

pub returns : goal.returns
returns c =
    let w : World = world_of c.args.boot.now c.args.script.now c.args.limits in
    let past = reverse c.args.turns.now in
    let end = c.min-end.result in
    let lines = lines_of c.as_slice.result.now in
    let tells : Tells w past lines = subst (λ (changes : List Change). Tells w past (lines_of changes)) (sym c.as_slice.ensures.value) (c.in_ok-changes.ensures w refl) in
    let is : end ≡ min c.args.view.now.to (end_of w past) = c.min-end.ensures ∙ ap (min c.args.view.now.to) (c.run_end.ensures w refl refl) in
    let columns = c.as_slice-2.ensures.value ∙ c.in_ok-columns.ensures.columns in
    let drawn = told-picture w past c.args.view.now end lines tells is c.in_ok-text.text.items c.as_slice-2.result.now c.rate_of.result c.saturating_sub-shown.result columns (c.rate_of.ensures w refl refl) c.saturating_sub-shown.ensures c.in_ok-text.ensures in
    told-plot w past c.args.view.now end lines tells is c.in_ok-text.text.items c.push_end.new.out.items (ended_text (length c.args.turns.now) (last_clock past) c.args.limits.turns c.args.limits.clocks)
    drawn (ended-as w c.args.turns.now c.args.limits.clocks c.args.limits.turns refl refl) c.in_ok-push_end.ensures
