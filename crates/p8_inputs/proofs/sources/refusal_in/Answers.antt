use Rattle.p8_tree.specs.Views.{named_sources_of}
use Rattle.p8_inputs.proofs.Building.{measured-stop, refused-file}
use Rattle.p8_inputs.proofs.sources.refusal_in.Goals as goal

pub file_named-requires-clause-there : goal.file_named-requires-clause-there
file_named-requires-clause-there c = refused-file (named_sources_of c.args.gathered.now.project) c.args.name c.args.fault c.requires.refused.refused

pub returns-in-Ok : goal.returns-in-Ok
returns-in-Ok c =
    measured-stop (named_sources_of c.args.gathered.now.project) c.args.gathered.now.sources c.in-Ok.file c.args.name c.args.fault c.args.size c.requires.refused c.in-Ok.ensures.named c.in-Ok.ensures.text
