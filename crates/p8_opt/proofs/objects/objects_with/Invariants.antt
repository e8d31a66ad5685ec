use Rattle.std.proofs.Common.{◌≡◌, take, map}
use Rattle.p8_tree.specs.Views.{named_source_of}
use Rattle.p8_opt.specs.Steps.{objects_in}
use Rattle.p8_opt.proofs.objects.objects_with.Given as goal

abbrev pub invariant-loop-index : goal.invariant-loop-index
invariant-loop-index l = l.objects ≡ objects_in (map named_source_of l.files) (take l.index l.accepted) (take l.index l.codes)
