use Rattle.std.proofs.Common.{◌≡◌, ◌++◌}
use Rattle.std.specs.List.{range_with_len, flat_map}
use Rattle.p8_view.specs.Drives.{pin_text}
use Rattle.p8_view.proofs.drives.push_each.Given as goal

abbrev pub invariant-loop-pin : goal.invariant-loop-pin
invariant-loop-pin l = l.out.items ≡ l.initial.out.items ++ flat_map (pin_text l.fn.before l.fn.after) (range_with_len 0 l.pin)
