use Rattle.std.proofs.Common.{◌∙◌, length, ap}
use Rattle.p8_io.specs.contracts.memory_shelf.MemShelfShelf.TheImpl.{ghosts}
use Rattle.p8_tree.specs.Views.{named_sources_of}
use Rattle.p8_objects.proofs.Sourcing.{count-of}
use Rattle.p8_inputs.proofs.Gathering.{mentioned, no_ring}
use Rattle.p8_source_tests.proofs.codes.code_on.Goals as goal

pub project_code-code-requires-clause-mentioned : goal.project_code-code-requires-clause-mentioned
project_code-code-requires-clause-mentioned c = mentioned (named_sources_of c.in-Ok.gathered.project) c.in-Ok.ensures.mentioned

pub project_code-code-requires-clause-no_ring : goal.project_code-code-requires-clause-no_ring
project_code-code-requires-clause-no_ring c = no_ring (named_sources_of c.in-Ok.gathered.project) c.in-Ok.ensures.no_ring

pub project_code-code-requires-clause-beside : goal.project_code-code-requires-clause-beside
project_code-code-requires-clause-beside c = ap length c.as_slice-sources.ensures ∙ count-of (ghosts.files c.args.shelf.now) (named_sources_of c.in-Ok.gathered.project) c.in-Ok.gathered.sources c.in-Ok.ensures.sources

pub project_short_code-code-requires-clause-mentioned : goal.project_short_code-code-requires-clause-mentioned
project_short_code-code-requires-clause-mentioned c = mentioned (named_sources_of c.in-Ok.gathered.project) c.in-Ok.ensures.mentioned

pub project_short_code-code-requires-clause-no_ring : goal.project_short_code-code-requires-clause-no_ring
project_short_code-code-requires-clause-no_ring c = no_ring (named_sources_of c.in-Ok.gathered.project) c.in-Ok.ensures.no_ring

pub project_short_code-code-requires-clause-beside : goal.project_short_code-code-requires-clause-beside
project_short_code-code-requires-clause-beside c = ap length c.as_slice-sources.ensures ∙ count-of (ghosts.files c.args.shelf.now) (named_sources_of c.in-Ok.gathered.project) c.in-Ok.gathered.sources c.in-Ok.ensures.sources
