use Rattle.std.proofs.Common.{◌≡◌, map, take}
use Rattle.p8_tree.specs.Views.{method_of}
use Rattle.p8_fold.specs.ConstantEntries.{setting_of}
use Rattle.p8_map.specs.Names.{method_names}
use Rattle.p8_map.proofs.names.methods_of.Given as goal

abbrev pub invariant-loop-method : goal.invariant-loop-method
invariant-loop-method l = l.names ≡ map (method_names l.source (setting_of l.consts)) (map (λ m. method_of m.now) (take l.method-index l.methods))
