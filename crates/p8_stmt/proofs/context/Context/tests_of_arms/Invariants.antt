use Rattle.std.proofs.Common.{take}
use Rattle.p8_tree.specs.Views.{arms_of}
use Rattle.p8_gen.specs.Pieces.{Written}
use Rattle.p8_gen.specs.Writing.{Stands}
use Rattle.p8_stmt.specs.Walking.{names_at, tests_of_arms}
use Rattle.p8_stmt.proofs.context.Context.tests_of_arms.Given as goal

abbrev pub invariant-loop-arm : goal.invariant-loop-arm
invariant-loop-arm l = (w : Written) → Stands l.initial.out w → Stands l.out (tests_of_arms (names_at l.self) (arms_of (take l.arm-index l.arms)) w)
