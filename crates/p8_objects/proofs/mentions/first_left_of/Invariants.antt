use Rattle.std.proofs.Common.{ℕ, ◌<◌, map}
use Rattle.p8_tree.specs.Sources.{Child}
use Rattle.p8_tree.specs.Views.{child_of}
use Rattle.p8_objects.specs.Lists.{IsAt}
use Rattle.p8_objects.specs.Standing.{IsFinished}
use Rattle.p8_objects.specs.Mentioned.{sources_of}
use Rattle.p8_objects.proofs.mentions.first_left_of.Given as goal

abbrev pub invariant-loop-item : goal.invariant-loop-item
invariant-loop-item l = (k : ℕ) (x : Child) → k < l.item-index → IsAt (map child_of l.items) k x → IsFinished (sources_of l.files) l.done x.file
