use Rattle.std.proofs.Common.{◌≡◌, [], ◌∷◌, None, length, map}
use Rattle.p8_tree.specs.Views.{datum_of}
use Rattle.p8_declarations.specs.Lines.{before, items}
use Rattle.p8_declarations.specs.DataViews.{part_of, rest, from, stage_of}
use Rattle.p8_declarations.proofs.items.items_from.Given as goal

abbrev pub invariant-parts : goal.invariant-parts
invariant-parts l = items [] (before None) (part_of l.fn.first ∷ rest l.fn.row) ≡ items (map datum_of l.read) (stage_of l.stage) (from l.next l.row)

abbrev pub decreases-parts : goal.decreases-parts
decreases-parts l = length (from l.next l.row)
