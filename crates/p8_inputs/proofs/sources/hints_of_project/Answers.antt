use Rattle.p8_tree.specs.Views.{named_sources_of}
use Rattle.p8_inputs.proofs.Gathering.{mentioned, no_ring}
use Rattle.p8_inputs.proofs.sources.hints_of_project.Goals as goal

pub project_hints-requires-clause-mentioned : goal.project_hints-requires-clause-mentioned
project_hints-requires-clause-mentioned c = mentioned (named_sources_of c.args.gathered.now.project) c.requires.whole.mentioned

pub project_hints-requires-clause-no_ring : goal.project_hints-requires-clause-no_ring
project_hints-requires-clause-no_ring c = no_ring (named_sources_of c.args.gathered.now.project) c.requires.whole.no_ring

pub project_hints-requires-clause-proper : goal.project_hints-requires-clause-proper
project_hints-requires-clause-proper c i file stands = c.requires.whole.proper i file (record { is = stands })
