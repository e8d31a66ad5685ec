use Rattle.p8_tree.specs.Views.{named_sources_of}
use Rattle.p8_fold.specs.ConstantEntries.{at_bytes}
use Rattle.p8_names.specs.Finding.{HasNumbers}
use Rattle.p8_names.proofs.numbers.Numbers.of_project.Given as goal

abbrev pub invariant-loop-index : goal.invariant-loop-index
invariant-loop-index l = HasNumbers (named_sources_of l.project) l.index (λ n. at_bytes n l.numbers.names)
