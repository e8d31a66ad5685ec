use Rattle.std.proofs.Common.{◌≡◌, map, drop}
use Rattle.p8_tree.specs.Views.{method_of}
use Rattle.p8_fold.specs.ConstantEntries.{setting_of}
use Rattle.p8_constants.proofs.FirstFaults.{IsSoFar}
use Rattle.p8_names.specs.Faults.{InMethods}
use Rattle.p8_names.specs.Looking.{IsFaultIn}
use Rattle.p8_names.specs.Resolving.{HasMethods}
use Rattle.p8_names.proofs.method_list.look_at_all.Given as goal

abbrev pub invariant-loop-index : goal.invariant-loop-index
invariant-loop-index l =
    IsSoFar (InMethods (IsFaultIn l.initial.scope.kinds l.initial.scope.publics (setting_of l.initial.scope.consts)) (map (λ m. method_of m.now) l.methods)) l.first (InMethods (IsFaultIn l.initial.scope.kinds l.initial.scope.publics (setting_of l.initial.scope.consts)) (map (λ m. method_of m.now) (drop l.index l.methods)))
    × HasMethods l.initial.scope.kinds l.scope.kinds (setting_of l.initial.scope.consts) (map (λ m. method_of m.now) l.methods) l.index
    × (setting_of l.scope.consts ≡ setting_of l.initial.scope.consts)
    × (l.scope.publics ≡ l.initial.scope.publics)
