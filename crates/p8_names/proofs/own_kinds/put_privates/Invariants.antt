use Rattle.std.proofs.Common.{◌≡◌, ◌++◌, map, take}
use Rattle.p8_tree.specs.Views.{method_of}
use Rattle.p8_constants.specs.Standing.{items_of}
use Rattle.p8_names.specs.Kinds.{privates}
use Rattle.p8_names.proofs.own_kinds.put_privates.Given as goal

abbrev pub invariant-loop-item : goal.invariant-loop-item
invariant-loop-item l = map (λ m. method_of m.now) l.methods.items ≡ map (λ m. method_of m.now) l.initial.methods.items ++ privates (items_of (take l.item-index l.items))
