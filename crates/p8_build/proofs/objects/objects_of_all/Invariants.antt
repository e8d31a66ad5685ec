use Rattle.std.proofs.Common.{◌≡◌, map, take}
use Rattle.p8_tree.specs.Views.{named_source_of}
use Rattle.p8_build.specs.Phases.{object_in}
use Rattle.p8_build.proofs.objects.objects_of_all.Given as goal

abbrev pub invariant-loop-file : goal.invariant-loop-file
invariant-loop-file l = l.objects ≡ map (λ f. object_in (map named_source_of l.files) f f.codes) (take l.file-index l.accepted)
