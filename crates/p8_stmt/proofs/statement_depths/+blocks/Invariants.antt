use Rattle.std.proofs.Common.{◌≡◌, take}
use Rattle.p8_tree.specs.Views.{arms_of, statements_of}
use Rattle.p8_gen.specs.Depths.{held_in, held_in_arms, held_in_cases}
use Rattle.p8_gen.specs.Scopes.{names_of}
use Rattle.p8_stmt.specs.Cutting.{cut}
use Rattle.p8_stmt.proofs.statement_depths.+blocks.Given as goal

abbrev pub invariant-held_in-loop-statement : goal.invariant-held_in-loop-statement
invariant-held_in-loop-statement l = l.most ≡ cut (held_in (names_of l.coder) (statements_of (take l.statement-index l.statements)))

abbrev pub invariant-held_in_arms-loop-arm : goal.invariant-held_in_arms-loop-arm
invariant-held_in_arms-loop-arm l = l.most ≡ cut (held_in_arms (names_of l.coder) (arms_of (take l.arm-index l.arms)))

abbrev pub invariant-held_in_cases-loop-arm : goal.invariant-held_in_cases-loop-arm
invariant-held_in_cases-loop-arm l = l.most ≡ cut (held_in_cases (names_of l.coder) (arms_of (take l.arm-index l.arms)))
