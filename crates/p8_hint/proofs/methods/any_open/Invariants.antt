use Rattle.std.proofs.Common.{◌≡◌, drop, map}
use Rattle.p8_tree.specs.Views.{declared_of}
use Rattle.p8_hint.specs.Rules.{any_open}
use Rattle.p8_hint.specs.Tables.{number_in}
use Rattle.p8_hint.proofs.methods.any_open.Given as goal

abbrev pub invariant-loop-local : goal.invariant-loop-local
invariant-loop-local l = any_open (number_in l.reached) (map declared_of (drop l.local-index l.locals)) ≡ any_open (number_in l.reached) (map declared_of l.locals)
