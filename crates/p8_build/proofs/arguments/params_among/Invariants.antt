use Rattle.std.proofs.Common.{◌≡◌, drop}
use Rattle.p8_build.specs.Arguments.{params_among}
use Rattle.p8_build.proofs.arguments.params_among.Given as goal

abbrev pub invariant-loop-method : goal.invariant-loop-method
invariant-loop-method l = params_among (drop l.method-index l.methods) l.name ≡ params_among l.methods l.name
