use Rattle.std.proofs.Common.{◌≡◌, drop}
use Rattle.p8_hint.specs.Rules.{any_reached}
use Rattle.p8_hint.specs.Tables.{number_in}
use Rattle.p8_hint.proofs.methods.any_reached.Given as goal

abbrev pub invariant-loop-name : goal.invariant-loop-name
invariant-loop-name l = any_reached (number_in l.reached) (drop l.name-index l.names) ≡ any_reached (number_in l.reached) l.names
