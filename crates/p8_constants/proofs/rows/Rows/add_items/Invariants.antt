use Rattle.std.proofs.Common.{◌≡◌, ◌++◌, true, map, take}
use Rattle.p8_tree.specs.Views.{constant_of}
use Rattle.p8_constants.specs.Rows.{rows_from, rows_in}
use Rattle.p8_constants.proofs.rows.Rows.add_items.Given as goal

abbrev pub invariant-loop-index : goal.invariant-loop-index
invariant-loop-index l = rows_from l.self ≡ rows_from l.initial.self ++ rows_in true (map constant_of (take l.index l.items))
