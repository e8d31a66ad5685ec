use Rattle.p8_tree.specs.Views.{named_sources_of}
use Rattle.p8_names.specs.Finding.{AreDone}
use Rattle.p8_names.proofs.finding.find.Given as goal

abbrev pub invariant-loop-place : goal.invariant-loop-place
invariant-loop-place l = AreDone (named_sources_of l.project) l.graph l.order l.place l.found.children.items l.found.seen.items
