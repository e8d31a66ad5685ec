use Rattle.p8_tree.specs.Views.{named_sources_of}
use Rattle.p8_inputs.proofs.Gathering.{mentioned, no_ring}
use Rattle.p8_source_tests.proofs.arguments.fault_on.Goals as goal

pub build-built-requires-clause-mentioned : goal.build-built-requires-clause-mentioned
build-built-requires-clause-mentioned c = mentioned (named_sources_of c.in-Ok.gathered.project) c.in-Ok.ensures.mentioned

pub build-built-requires-clause-no_ring : goal.build-built-requires-clause-no_ring
build-built-requires-clause-no_ring c = no_ring (named_sources_of c.in-Ok.gathered.project) c.in-Ok.ensures.no_ring
