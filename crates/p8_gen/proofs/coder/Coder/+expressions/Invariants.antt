use Rattle.std.proofs.Common.{take}
use Rattle.p8_tree.specs.Views.{trees_of, items_of}
use Rattle.p8_gen.specs.Pieces.{Written}
use Rattle.p8_gen.specs.Expressions.{values, looks}
use Rattle.p8_gen.specs.Scopes.{names_of}
use Rattle.p8_gen.specs.Writing.{Stands}
use Rattle.p8_gen.proofs.coder.Coder.+expressions.Given as goal

abbrev pub invariant-values-loop-argument : goal.invariant-values-loop-argument
invariant-values-loop-argument l = (w : Written) → Stands l.initial.out w → Stands l.out (values (names_of l.self) (trees_of (take l.argument-index l.arguments)) w)

abbrev pub invariant-looked-loop-item : goal.invariant-looked-loop-item
invariant-looked-loop-item l = (w : Written) → Stands l.initial.out w → Stands l.out (looks (names_of l.self) l.down l.end (items_of (take l.item-index l.items)) w)
