use Rattle.std.proofs.Common.{◌≡◌, take}
use Rattle.p8_tree.specs.Views.{statements_of, arms_of}
use Rattle.p8_kinds.specs.Environments.{environment_of}
use Rattle.p8_kinds.specs.FirstMisuses.{first_in_statements, first_in_arms}
use Rattle.p8_kinds.proofs.statements.+statements.Given as goal

abbrev pub invariant-first_in_statements-loop-statement : goal.invariant-first_in_statements-loop-statement
invariant-first_in_statements-loop-statement l = l.first ≡ first_in_statements (environment_of l.scope) (statements_of (take l.statement-index l.statements))

abbrev pub invariant-first_in_arms-loop-arm : goal.invariant-first_in_arms-loop-arm
invariant-first_in_arms-loop-arm l = l.first ≡ first_in_arms (environment_of l.scope) (arms_of (take l.arm-index l.arms))
