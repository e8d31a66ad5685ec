use Rattle.std.proofs.Common.{◌≡◌, ℕ, ◌<◌}
use Rattle.p8_tree.specs.Projects.{NamedSource}
use Rattle.p8_objects.specs.Lists.{IsAt}
use Rattle.p8_objects.specs.Mentioned.{sources_of}
use Rattle.p8_objects.proofs.mentions.number_of.Given as goal

abbrev pub invariant-loop-at : goal.invariant-loop-at
invariant-loop-at l = (k : ℕ) (f : NamedSource) → k < l.at → IsAt (sources_of l.files) k f → ¬ (f.name ≡ l.name)
