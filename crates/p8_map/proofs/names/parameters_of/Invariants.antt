use Rattle.std.proofs.Common.{◌≡◌, ◌++◌, drop}
use Rattle.p8_map.specs.Names.{spelled_all}
use Rattle.p8_map.proofs.names.parameters_of.Given as goal

abbrev pub invariant-loop-name : goal.invariant-loop-name
invariant-loop-name l = l.names ++ spelled_all l.source l.rest (drop l.name-index l.parameters) ≡ spelled_all l.source l.places l.parameters
