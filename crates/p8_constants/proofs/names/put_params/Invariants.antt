use Rattle.std.proofs.Common.{◌≡◌, ◌++◌, drop}
use Rattle.p8_constants.specs.Names.{params_of}
use Rattle.p8_constants.specs.Standing.{all_defined_of}
use Rattle.p8_constants.proofs.names.put_params.Given as goal

abbrev pub invariant-loop-index : goal.invariant-loop-index
invariant-loop-index l = all_defined_of l.initial.names.items ++ params_of l.params l.places ≡ all_defined_of l.names.items ++ params_of (drop l.index l.params) (drop l.index l.places)
