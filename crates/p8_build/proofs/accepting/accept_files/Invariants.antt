use Rattle.std.proofs.Common.{◌≡◌, length, map}
use Rattle.p8_tree.specs.Views.{named_source_of}
use Rattle.p8_build.specs.Phases.{IsAcceptedAt}
use Rattle.p8_build.proofs.Lists.{Each}
use Rattle.p8_build.proofs.accepting.accept_files.Given as goal

abbrev pub invariant-loop-index : goal.invariant-loop-index
invariant-loop-index l = record {
  count : length l.accepted ≡ l.index;
  each : Each (IsAcceptedAt (map named_source_of l.files) l.children) l.accepted;
}
