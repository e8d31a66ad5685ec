use Rattle.std.proofs.Common.{◌≡◌, ◌+◌, map, drop}
use Rattle.p8_tree.specs.Views.{named_source_of}
use Rattle.p8_build.specs.Parts.{number_of}
use Rattle.p8_build.proofs.objects.number_of.Given as goal

abbrev pub invariant-loop-index : goal.invariant-loop-index
invariant-loop-index l = l.index + number_of (map named_source_of (drop l.index l.files)) l.name ≡ number_of (map named_source_of l.files) l.name
