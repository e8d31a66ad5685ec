use Rattle.std.proofs.Common.{◌≡◌, ◌++◌, drop}
use Rattle.std.specs.List.{flat_map}
use Rattle.p8_pins.specs.LevelChanges.{lines_of}
use Rattle.p8_page.specs.Kept.{kept}
use Rattle.p8_page.specs.Page.{pins_line}
use Rattle.p8_page.proofs.numbers.push_changes.Given as goal

abbrev pub invariant-loop-change : goal.invariant-loop-change
invariant-loop-change l =
    l.out.items ++ flat_map pins_line (kept l.pins l.end (lines_of (drop l.change-index l.changes)))
    ≡ l.initial.out.items ++ flat_map pins_line (kept 0 l.end (lines_of l.changes))
