use Rattle.std.proofs.Common.{length, take, nat_lt, ◌||◌}
use Rattle.p8_tree.specs.Views.{arms_of, statements_of}
use Rattle.p8_gen.specs.Pieces.{Written, from_place, jump}
use Rattle.p8_gen.specs.Statements.{body, chain, all_tests, case_bodies}
use Rattle.p8_gen.specs.Writing.{Stands}
use Rattle.p8_stmt.specs.Walking.{names_at, loop_at, leap}
use Rattle.p8_stmt.proofs.context.Context.+statements.Given as goal

abbrev pub invariant-body-loop-statement : goal.invariant-body-loop-statement
invariant-body-loop-statement l =
    (w : Written) → Stands l.initial.out w → Stands l.out (body (names_at l.self) (loop_at l.self) (statements_of (take l.statement-index l.statements)) w)

abbrev pub invariant-arms-loop-index : goal.invariant-arms-loop-index
invariant-arms-loop-index l =
    (w : Written) → Stands l.initial.out w →
    Stands l.out (chain (names_at l.self) (loop_at l.self) (jump (names_at l.self).wide (names_at l.self).statement 0x04 l.end) (leap (names_at l.self) (l.last_jumps || nat_lt l.index (length l.arms)) l.end) (arms_of (take l.index l.arms)) w)

abbrev pub invariant-placed_tests-loop-arm : goal.invariant-placed_tests-loop-arm
invariant-placed_tests-loop-arm l =
    ((w : Written) → Stands l.initial.out w → Stands l.out (all_tests (names_at l.self) (loop_at l.self) l.first l.before (arms_of (take l.arm-index l.arms)) w))
    × Stands l.bodies (case_bodies (names_at l.self) (loop_at l.self) 0 (arms_of (take l.arm-index l.arms)) (from_place l.first l.before))

abbrev pub invariant-case_bodies-loop-arm : goal.invariant-case_bodies-loop-arm
invariant-case_bodies-loop-arm l =
    (w : Written) → Stands l.initial.out w → Stands l.out (case_bodies (names_at l.self) (loop_at l.self) l.end (arms_of (take l.arm-index l.arms)) w)
