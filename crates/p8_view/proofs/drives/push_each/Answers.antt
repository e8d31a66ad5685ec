use Rattle.std.proofs.Common.{◌≡◌, ◌++◌, ℕ, ap, ◌∙◌, arith}
use Rattle.std.specs.List.{range_with_len, flat_map}
use Rattle.p8_view.specs.Drives.{pin_text}
use Rattle.p8_view.proofs.Ranges.{flat_map_step}
use Rattle.p8_view.proofs.drives.push_each.Goals as goal

pub loop-pin-preserved : goal.loop-pin-preserved
loop-pin-preserved c = flat_map_step (pin_text c.args.before.now c.args.after.now) c.loop-pin.pin _ _ _ c.loop-pin.invariant c.in_ok-push_pin.ensures

pub returns : goal.returns
returns c =
    let all : c.loop-pin.pin ≡ 32 = omega arith in
    c.loop-pin.invariant ∙ ap (λ (n : ℕ). c.args.out.now.items ++ flat_map (pin_text c.args.before.now c.args.after.now) (range_with_len 0 n)) all
