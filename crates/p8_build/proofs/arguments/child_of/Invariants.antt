use Rattle.std.proofs.Common.{◌≡◌, drop}
use Rattle.std.specs.Map.{lookup}
use Rattle.std.specs.Str.{bytes_eq}
use Rattle.p8_constants.specs.Standing.{items_of}
use Rattle.p8_names.specs.Settings.{with_children}
use Rattle.p8_build.proofs.arguments.child_of.Given as goal

abbrev pub invariant-loop-item : goal.invariant-loop-item
invariant-loop-item l = lookup (bytes_eq l.name) (with_children (items_of (drop l.item-index l.items)) l.left) ≡ lookup (bytes_eq l.name) (with_children (items_of l.items) l.children)
