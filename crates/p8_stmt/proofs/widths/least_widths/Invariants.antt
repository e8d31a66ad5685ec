use Rattle.std.proofs.Common.{not}
use Rattle.std.specs.Prelude.{count_by}
use Rattle.p8_tree.specs.Views.{statements_of}
use Rattle.p8_gen.specs.Scopes.{names_from}
use Rattle.p8_stmt.specs.Rounds.{IsBelowAll}
use Rattle.p8_stmt.proofs.widths.least_widths.Given as goal

abbrev pub invariant-rounds : goal.invariant-rounds
invariant-rounds l = IsBelowAll (names_from l.kinds l.number l.tables l.method.place) (statements_of l.body) l.widths.items

abbrev pub decreases-rounds : goal.decreases-rounds
decreases-rounds l = count_by not l.widths.items
