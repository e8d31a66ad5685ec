use Rattle.std.proofs.Common.{◌≡◌, take}
use Rattle.p8_tree.specs.Views.{statements_of, arms_of}
use Rattle.p8_build.specs.Arguments.{in_statements, in_arms}
use Rattle.p8_build.specs.Searching.{search_of}
use Rattle.p8_build.proofs.callers.+callers.Given as goal

abbrev pub invariant-in_statements-loop-statement : goal.invariant-in_statements-loop-statement
invariant-in_statements-loop-statement l = l.first ≡ in_statements (search_of l.sought) (statements_of (take l.statement-index l.statements))

abbrev pub invariant-in_arms-loop-arm : goal.invariant-in_arms-loop-arm
invariant-in_arms-loop-arm l = l.first ≡ in_arms (search_of l.sought) (arms_of (take l.arm-index l.arms))
