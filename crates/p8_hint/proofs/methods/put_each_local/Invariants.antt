use Rattle.std.proofs.Common.{◌≡◌, ◌++◌, drop, map}
use Rattle.std.specs.List.{flat_map}
use Rattle.p8_tree.specs.Views.{declared_of}
use Rattle.p8_hint.specs.Rules.{of_local}
use Rattle.p8_hint.specs.Tables.{number_in}
use Rattle.p8_hint.proofs.methods.put_each_local.Given as goal

abbrev pub invariant-loop-local : goal.invariant-loop-local
invariant-loop-local l =
    l.hints.items ++ flat_map (of_local (number_in l.times)) (map declared_of (drop l.local-index l.locals)) ≡ l.initial.hints.items ++ flat_map (of_local (number_in l.times)) (map declared_of l.locals)
