use Rattle.std.proofs.Common.{◌≡◌, length, map}
use Rattle.p8_tree.specs.Views.{named_source_of}
use Rattle.p8_build.proofs.Lists.{Each}
use Rattle.p8_hint.specs.Accepting.{IsTextAt}
use Rattle.p8_hint.proofs.accepted.texts_of_all.Given as goal

abbrev pub invariant-loop-index : goal.invariant-loop-index
invariant-loop-index l = record {
  count : length l.all ≡ l.index;
  each : Each (IsTextAt l.sources (map named_source_of l.files) l.accepted) l.all;
}
