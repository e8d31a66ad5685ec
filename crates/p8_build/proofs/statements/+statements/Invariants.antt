use Rattle.std.proofs.Common.{◌≡◌, ◌++◌, take}
use Rattle.p8_tree.specs.Views.{statements_of, arms_of}
use Rattle.p8_build.specs.Strings.{strings_in, in_arms}
use Rattle.p8_build.specs.Views.{texts_of}
use Rattle.p8_build.proofs.statements.+statements.Given as goal

abbrev pub invariant-put_statements-loop-statement : goal.invariant-put_statements-loop-statement
invariant-put_statements-loop-statement l = texts_of l.texts.items ≡ texts_of l.initial.texts.items ++ strings_in (statements_of (take l.statement-index l.statements))

abbrev pub invariant-put_arms-loop-arm : goal.invariant-put_arms-loop-arm
invariant-put_arms-loop-arm l = texts_of l.texts.items ≡ texts_of l.initial.texts.items ++ in_arms (arms_of (take l.arm-index l.arms))
