use Rattle.std.proofs.Common.{◌≡◌, ◌∙◌, ap, sym, List, ℕ, ◌++◌, flat_map, arith}
use Rattle.std.specs.List.{range_with_len}
use Rattle.p8_pins.specs.LevelChanges.{lines_of}
use Rattle.p8_wave.specs.Axes.{scale_of}
use Rattle.p8_wave.specs.Plot.{picture_of}
use Rattle.p8_wave.specs.Tracing.{line_of_pin}
use Rattle.p8_wave.proofs.PlotRanges.{flat_map-more}
use Rattle.p8_wave.proofs.picture.picture.Goals as goal

pub loop-pin-preserved : goal.loop-pin-preserved
loop-pin-preserved c =
    let line = line_of_pin (lines_of c.args.changes.now) c.args.view.now c.args.columns.now in
    c.in_ok-push_line.ensures ∙ ap (λ (out : List ℕ). out ++ line c.loop-pin.pin) c.loop-pin.invariant ∙ sym (flat_map-more line c.loop-pin.pin)

pub returns : goal.returns
unfolding picture_of
returns c =
    let line = line_of_pin (lines_of c.args.changes.now) c.args.view.now c.args.columns.now in
    let all : c.loop-pin.pin ≡ 32 = omega (arith, c.loop-pin.auto.pin-end, c.loop-pin-test.false) in
    c.in_ok-push_scale.ensures
    ∙ ap (λ (out : List ℕ). out ++ scale_of c.args.frequency c.args.shown c.args.columns.now) (c.loop-pin.invariant ∙ ap (λ (n : ℕ). flat_map line (range_with_len 0 n)) all)
