use Rattle.std.proofs.Common.{◌≡◌, map, take}
use Rattle.p8_tree.specs.Views.{declared_of}
use Rattle.p8_fold.specs.ConstantEntries.{setting_of}
use Rattle.p8_map.specs.Names.{local_name}
use Rattle.p8_map.proofs.names.locals_of.Given as goal

abbrev pub invariant-loop-local : goal.invariant-loop-local
invariant-loop-local l = l.names ≡ map (local_name l.source (setting_of l.consts)) (map declared_of (take l.local-index l.locals))
