use Rattle.std.proofs.Common.{◌≡◌, ◌++◌, map, take}
use Rattle.p8_tree.specs.Views.{declared_of}
use Rattle.p8_constants.specs.Names.{local_of}
use Rattle.p8_constants.specs.Standing.{all_defined_of}
use Rattle.p8_constants.proofs.names.put_locals.Given as goal

abbrev pub invariant-loop-local : goal.invariant-loop-local
invariant-loop-local l = all_defined_of l.names.items ≡ all_defined_of l.initial.names.items ++ map local_of (map declared_of (take l.local-index l.locals))
